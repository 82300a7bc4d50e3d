use Rattle.std.proofs.Common.{List, map, Option, ap, ◌∙◌}
use Rattle.std.specs.Prelude.{find, option_map}
use Rattle.desk_base.specs.declared.rows.tables.Key.{Key}
use Rattle.desk_base.specs.declared.rows.resources.MemberRow.{MemberRow}
use Rattle.desk_base.specs.declared.rows.tables.AnyRow.TheVariants.{Member}
use Rattle.desk_base.specs.rows.Rows.{key_of}
use Rattle.desk_base.specs.asked.Refusing.{cites}
use Rattle.desk_change.specs.Citing.{lesser}
use Rattle.desk_change.proofs.Members.{of_members}
use Rattle.desk_change.proofs.in_use.lists.citing_member.Goals as goal

pub returns : goal.returns
returns c =
    let k = c.args.key.now in
    let found = λ (rows : List MemberRow). option_map key_of (find (cites k) (map Member rows)) in
    c.lesser.ensures ∙ ap (λ (o : Option Key). lesser o c.first_citing-as_member.result) (c.first_citing-as_group.ensures ∙ ap found c.members_of.ensures)
    ∙ ap (lesser (found _)) (c.first_citing-as_member.ensures ∙ ap found c.memberships_of.ensures) ∙ of_members c.args.tables.now k c.requires.sound
