use Rattle.std.proofs.Common.{◌∙◌, ◌++◌, ap, sym, subst}
use Rattle.desk_base.specs.declared.rows.tables.AnyRow.TheVariants.{Member}
use Rattle.desk_base.specs.rows.Rows.{key_of}
use Rattle.desk_base.specs.changes.Changes.{without_one}
use Rattle.desk_member.proofs.Placing.{AreOf, own_are, own_without, are_without}
use Rattle.desk_member.proofs.by_member.ByMember.without.Goals as goal

pub around-requires : goal.around-requires
around-requires c =
    let row = c.args.row.now in
    let own = c.of_member-own.result.now in
    let are : AreOf row.member own = subst (AreOf row.member) (sym c.of_member-own.ensures) (own_are row.member c.args.self.now) in
    let all = c.as_slice-2.ensures.value ∙ c.in_ok-extend_from_slice.ensures.items ∙ (λ i. c.in_ok-rows.ensures i ++ (c.as_slice.ensures.value ∙ c.in_ok-upper.ensures) i) in
    subst (AreOf row.member) (sym all) (are_without row own are)

pub returns-clause-own : goal.returns-clause-own
returns-clause-own c =
    let row = c.args.row.now in
    let own = c.of_member-own.result.now in
    let are : AreOf row.member own = subst (AreOf row.member) (sym c.of_member-own.ensures) (own_are row.member c.args.self.now) in
    let all = c.as_slice-2.ensures.value ∙ c.in_ok-extend_from_slice.ensures.items ∙ (λ i. c.in_ok-rows.ensures i ++ (c.as_slice.ensures.value ∙ c.in_ok-upper.ensures) i) in
    c.in_ok-list.ensures.own ∙ all ∙ own_without row own are ∙ ap (without_one (λ y. key_of (Member y)) (key_of (Member row))) c.of_member-own.ensures

pub returns-clause-others : goal.returns-clause-others
returns-clause-others c r e = c.in_ok-list.ensures.others r e
