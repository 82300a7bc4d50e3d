-- Requirement groups are read again as they were written.
use Rattle.std.proofs.Common.{◌≡◌, true, length, Option, None, Some, is_none, refl, arith}
use Rattle.std.proofs.lemmas.Bool.{and_parts}
use Rattle.desk_base.specs.declared.rows.groups.GroupRow.{GroupRow}
use Rattle.desk_base.specs.declared.rows.tables.AnyRow.TheVariants.{Group}
use Rattle.desk_base.specs.declared.asked.rules.Field.TheVariants as field
use Rattle.desk_base.specs.rules.Rules.{first_broken}
use Rattle.desk_base.specs.rules.Fields.{group_rules}
use Rattle.desk_base.specs.rules.TreeRules.{TreeFault, tree_fault}
use Rattle.desk_json.specs.Reading.{greatest_u16}
use Rattle.desk_json.specs.Forms.{under}
use Rattle.desk_json.specs.Tables.{grid_form, group_form}
use Rattle.desk_kept.specs.Groups.{group_data}
use Rattle.desk_kept.specs.Kept.{kept_form}
use Rattle.desk_kept.specs.Rules.{KeepsRules}
use Rattle.desk_kept.specs.TypedGroups.{IsGroup}
use Rattle.desk_kept.proofs.KeptValues.{whole_kept, id_kept, text_kept, moment_kept}
use Rattle.desk_kept.proofs.ReadRows.{IsReadBack, read_in}
use Rattle.desk_kept.proofs.TreeReads.{tree_reads}
use Rattle.desk_kept.proofs.TreeSounds.{tree_sound}

none_is : (o : Option TreeFault) → is_none o ≡ true → o ≡ None
none_is None e = refl
none_is (Some x) e = cc

pub tree_holds : (g : GroupRow) → KeepsRules (Group g) → tree_fault g.nodes (length g.leaves) ≡ None
tree_holds g k = none_is (tree_fault g.nodes (length g.leaves)) (and_parts (is_none (first_broken (group_rules g))) (is_none (tree_fault g.nodes (length g.leaves))) k.1).1

pub group_back : (g : GroupRow) → IsGroup g → KeepsRules (Group g) → IsReadBack (Group g)
unfolding kept_form group_form grid_form under
group_back g is keeps =
    let fault = tree_holds g keeps in
    let from = moment_kept g.from is.from in
    let id = id_kept g.id is.id in
    let name = text_kept g.name is.name in
    let step = whole_kept greatest_u16 g.step is.step (omega arith) in
    let to = moment_kept g.to is.to in
    let tree = tree_sound g.nodes g.leaves fault is.leaves in
    record {
      sound = ((refl, from.sound, (refl, id.sound, (refl, name.sound, (refl, step.sound, (refl, to.sound, (refl, tree.sound, tt)))))), refl);
      deep = omega (arith, from.deep, id.deep, name.deep, step.deep, to.deep, tree.shallow);
      reads =
          read_in (Group g) (group_data g) refl
          (rw (id.reads field.Id, name.reads field.Name, from.reads field.From, to.reads field.To, step.reads field.Step, tree_reads field.Tree g.nodes g.leaves fault is.leaves) refl)
          refl;
    }
