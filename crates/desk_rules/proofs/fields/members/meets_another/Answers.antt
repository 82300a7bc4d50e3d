use Rattle.std.proofs.Common.{◌==◌, ◌&&◌, not, ap, ◌∙◌}
use Rattle.std.specs.List.{list_any}
use Rattle.desk_base.specs.declared.rows.resources.MemberRow.{MemberRow}
use Rattle.desk_base.specs.rules.Fields.{are_of_one_kind, is_same_membership, overlaps}
use Rattle.desk_rules.proofs.Tests.{any_within_three}
use Rattle.desk_rules.proofs.fields.members.meets_another.Goals as goal

pub returns : goal.returns
returns c =
    let t = c.args.tables.now in
    let x : MemberRow = c.args.row.now in
    let meets = λ (y : MemberRow). not (is_same_membership y x) && are_of_one_kind t y.group x.group && overlaps y.from y.to x.from x.to in
    c.meets_one.ensures ∙ ap (list_any meets) c.requires.own
    ∙ any_within_three (λ (y : MemberRow). y.member == x.member) (λ y. not (is_same_membership y x)) (λ y. are_of_one_kind t y.group x.group) (λ y. overlaps y.from y.to x.from x.to) t.members
