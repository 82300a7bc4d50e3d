use Rattle.std.proofs.Common.{rules, ◌≡◌, ℕ, ◌-◌, ◌≤◌, true, false, List, length, take, drop, ◌∙◌, ap, sym, subst}
use Rattle.std.proofs.lemmas.List.{take_rest}
use Rattle.std.proofs.lemmas.List.Sorted.{IsPartitionPoint-from_clause}
use Rattle.std.specs.Prelude.{filter}
use Rattle.std.specs.List.{AllByRecursion}
use Rattle.std.specs.List.Sorted.{IsPartitionPoint}
use Rattle.desk_base.specs.rows.Ranges.{Rise, owns}
use Rattle.desk_base.specs.declared.rows.resources.MemberRow.{MemberRow}
use Rattle.desk_base.proofs.lists.Cuts.{cut_partitioned, before_point, from_point, filter_passes, filter_within, Rise-filter, is_below, not_below, cut_below, cut_owns, owned_passes}
use Rattle.desk_member.specs.Memberships.{of_member}
use Rattle.desk_member.proofs.by_member.ByMember.of_member.Goals as goal

pub returns : goal.returns
returns c =
    let owner = λ (x : MemberRow). x.member in
    let rank : MemberRow → ℕ = λ x. 0 in
    let o : ℕ = c.get-member.result in
    let rows : List MemberRow = c.deref-2.result.now in
    let one : c.deref.result.now ≡ rows = c.deref.ensures.value ∙ sym c.deref-2.ensures.value in
    let same : rows ≡ c.args.self.now = cc in
    let sorted : Rise owner rank rows = subst (Rise owner rank) (sym c.deref-2.ensures.value) c.self.invariant in
    let before : Rise owner rank c.deref.result.now = subst (Rise owner rank) (sym one) sorted in
    let first : ℕ = c.partition_point-first.result in
    let count : ℕ = c.partition_point-count.result in
    let below = is_below owner rank o in
    let p0 = IsPartitionPoint-from_clause below c.deref.result.now first c.partition_point-first.ensures.partitioned (cut_partitioned below c.deref.result.now (cut_below owner rank o c.deref.result.now before)) (λ a r q k. search rules) in
    let p1 = subst (λ l. IsPartitionPoint (λ y. below y ≡ true) (λ y. below y ≡ false) l first) one p0 in
    let bound : first ≤ length rows = subst (λ l. first ≤ length l) one c.partition_point-first.ensures.bound in
    let rest_is = take_rest rows first ∙ from_point below rows first bound p1 in
    let rest = take (length rows - first) (drop first rows) in
    let rise : Rise owner rank rest = subst (Rise owner rank) (sym rest_is) (Rise-filter owner rank (not_below owner rank o) rows sorted) in
    let past : AllByRecursion (λ x. not_below owner rank o x ≡ true) rest = subst (AllByRecursion (λ x. not_below owner rank o x ≡ true)) (sym rest_is) (filter_passes (not_below owner rank o) rows) in
    let p2 = IsPartitionPoint-from_clause (owns owner o) rest count c.partition_point-count.ensures.partitioned (cut_partitioned (owns owner o) rest (cut_owns owner rank o rest rise past)) (λ a r q k. search rules) in
    before_point (owns owner o) rest count c.partition_point-count.ensures.bound p2
    ∙ ap (filter (owns owner o)) rest_is
    ∙ filter_within (not_below owner rank o) (owns owner o) rows (owned_passes owner rank o)
    ∙ ap (λ n. filter (owns owner n) rows) c.get-member.ensures.value
    ∙ ap (of_member c.args.resource) same
