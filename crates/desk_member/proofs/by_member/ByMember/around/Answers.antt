use Rattle.std.proofs.Common.{◌≡◌, ◌∙◌, ◌++◌, nat_lt, ap, sym, subst}
use Rattle.std.specs.Prelude.{filter}
use Rattle.desk_base.specs.declared.rows.resources.MemberRow.{MemberRow}
use Rattle.desk_base.specs.rows.Ranges.{Rise}
use Rattle.desk_member.specs.Memberships.{of_member}
use Rattle.desk_member.proofs.Placing.{rise_around, own_around, others_around}
use Rattle.desk_member.proofs.by_member.ByMember.around.Goals as goal

-- what is made: the memberships below, these, and those above
made : (c : goal.In_ok-extend_from_slice-3) → c.extend_from_slice-3.new.self.items ≡ (filter (λ (x : MemberRow). nat_lt x.member c.args.member) c.self.inside.rows.items ++ c.args.own.now) ++ filter (λ (x : MemberRow). nat_lt c.args.member x.member) c.self.inside.rows.items
made c =
    let all = c.as_slice-all.ensures.value in
    let low = c.below.ensures ∙ (λ i. filter (λ (x : MemberRow). nat_lt x.member (c.get.ensures.value i)) (all i)) in
    let high = c.above.ensures ∙ (λ i. filter (λ (x : MemberRow). nat_lt (c.get-2.ensures.value i) x.member) (all i)) in
    c.in_ok-extend_from_slice-3.ensures.items
    ∙ ap (λ l. l ++ c.above.result.now) (c.in_ok-extend_from_slice-2.ensures.items ∙ ap (λ l. l ++ c.args.own.now) (c.in_ok-extend_from_slice.ensures.items ∙ ap (λ l. l ++ c.below.result.now) c.in_ok-rows.ensures.items))
    ∙ (λ i. (low i ++ c.args.own.now) ++ high i)

pub invariant_of-result : goal.invariant_of-result
invariant_of-result c = subst (Rise (λ (x : MemberRow). x.member) (λ x. 0)) (sym (made c)) (rise_around (λ (x : MemberRow). x.member) c.args.member c.args.own.now c.self.inside.rows.items c.requires c.self.invariant)

pub returns-clause-own : goal.returns-clause-own
returns-clause-own c = ap (of_member c.args.member) (made c) ∙ own_around c.args.member c.args.own.now c.self.inside.rows.items c.requires

pub returns-clause-others : goal.returns-clause-others
returns-clause-others c r e =
    let same : c.self.inside.rows.items ≡ c.args.self.now = cc in
    ap (of_member r) (made c) ∙ others_around c.args.member c.args.own.now c.self.inside.rows.items c.requires r e ∙ ap (of_member r) same
