use Rattle.std.proofs.Common.{rules, ◌≡◌, ◌∙◌}
use Rattle.std.proofs.lemmas.Fn.{always_returns_same}
use Rattle.std.proofs.lemmas.List.Sorted.{IsNonDecreasingBy-from_sort_by_key}
use Rattle.desk_base.specs.declared.rows.resources.MemberRow.{MemberRow}
use Rattle.desk_member.proofs.ByMembers.{rise_of_sorted, each_kept}
use Rattle.desk_member.proofs.by_member.ByMember.of.Goals as goal

pub invariant_of-result : goal.invariant_of-result
invariant_of-result c = rise_of_sorted (λ (x : MemberRow). x.member) c.sort_by_key.new.self.items
    (IsNonDecreasingBy-from_sort_by_key (λ (x : MemberRow). x.member) c.sort_by_key.new.self.items c.in_ok-sort_by_key.ensures.sorted (λ a r q k. search rules))

pub returns : goal.returns
returns c = each_kept c.args.tables.now c.in_ok-rows.rows.items c.sort_by_key.new.self.items (c.in_ok-rows.ensures.items ∙ c.as_slice.ensures)
    (c.in_ok-sort_by_key.ensures.stable (λ (x : MemberRow). x.member) (always_returns_same _ (λ a r. r ≡ a.0.now.member) _ (λ a r q k. search rules)))
