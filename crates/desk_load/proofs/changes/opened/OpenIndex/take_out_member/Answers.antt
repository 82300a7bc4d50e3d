use Rattle.std.proofs.Common.{◌≡◌, ◌∙◌, sym, ap, subst}
use Rattle.desk_base.specs.declared.rows.tables.Key.{Key}
use Rattle.desk_base.specs.declared.rows.tables.AnyRow.TheVariants.{Member}
use Rattle.desk_base.specs.declared.rows.tables.Table.TheVariants.{Member as MemberTable}
use Rattle.desk_base.specs.rows.Rows.{key_of}
use Rattle.desk_base.specs.changes.Changes.{without_row}
use Rattle.desk_member.specs.Memberships.{of_member}
use Rattle.desk_load.specs.Changed.{parts_of}
use Rattle.desk_load.specs.Index.{IsIndexOf}
use Rattle.desk_load.proofs.Reweighed.{are_whole}
use Rattle.desk_load.proofs.Membered.{found_stands, none_found_there, members_rise, differs}
use Rattle.desk_load.proofs.changes.opened.OpenIndex.take_out_member.Goals as goal

pub returns-in_default-among-clause-index : goal.returns-in_default-among-clause-index
returns-in_default-among-clause-index c s more h =
    let k = c.args.key in
    let i = parts_of c.args.self.now in
    let rows : c.of_member.result.now ≡ of_member k.member i.members = c.of_member.ensures ∙ ap (λ n. of_member n i.members) c.in-Some.ensures.1 in
    none_found_there s i k.group k.member k.from c.of_member.result.now (members_rise c.args.tables.now s more i c.requires.well_formed h) h.index rows (sym c.in_default-among.ensures)

pub without_member-requires-clause-whole : goal.without_member-requires-clause-whole
without_member-requires-clause-whole c = let q = c.requires.stage in are_whole q.0 c.args.self.now.weights.items q.1.1.index.weights

pub returns-clause-index : goal.returns-clause-index
returns-clause-index c s more h =
    let k = c.args.key in
    let i = parts_of c.args.self.now in
    let row = c.in-Some-among.found.now in
    let rows : c.of_member.result.now ≡ of_member k.member i.members = c.of_member.ensures ∙ ap (λ n. of_member n i.members) c.in-Some.ensures.1 in
    let there = found_stands s i.members k.group k.member k.from row c.of_member.result.now h.index.members rows (sym c.in-Some-among.ensures) in
    subst (λ (j : Key). IsIndexOf (without_row s MemberTable j) (parts_of c.without_member.new.self)) there.1
    (c.in_ok-without_member.ensures.index c.args.tables.now s c.in_ok-links.ensures (differs c.args.tables.now s more i c.requires.well_formed h (key_of (Member row))) there.0 h.index)
