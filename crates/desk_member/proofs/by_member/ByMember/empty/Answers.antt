use Rattle.std.proofs.Common.{List, [], sym, subst}
use Rattle.desk_base.specs.declared.rows.resources.MemberRow.{MemberRow}
use Rattle.desk_base.specs.rows.Ranges.{Rise}
use Rattle.desk_member.proofs.by_member.ByMember.empty.Goals as goal

none_rise : Rise (λ (x : MemberRow). x.member) (λ x. 0) []
unfolding Rise
none_rise = tt

pub invariant_of-result : goal.invariant_of-result
invariant_of-result c = subst (λ (l : List MemberRow). Rise (λ (x : MemberRow). x.member) (λ x. 0) l) (sym c.new.ensures.items) none_rise
