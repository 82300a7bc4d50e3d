use Rattle.std.proofs.Common.{rules, ◌≡◌, ℕ, ◌-◌, true, length, take, drop, ◌∙◌, ap, sym, subst}
use Rattle.std.proofs.lemmas.List.{take_rest}
use Rattle.std.proofs.lemmas.List.Sorted.{IsPartitionPoint-from_clause}
use Rattle.std.specs.Prelude.{filter}
use Rattle.std.specs.List.{AllByRecursion}
use Rattle.desk_base.specs.rows.Ranges.{Rise, ranks}
use Rattle.desk_base.proofs.lists.Cuts.{cut_partitioned, before_point, from_point, filter_passes, filter_within, Rise-filter, is_before, not_before, cut_before, cut_ranks, ranked_passes}
use Rattle.desk_base.proofs.rows.ranges.rows_at.Goals as goal

pub returns : goal.returns
returns g c =
    let owner = g.T.Placed.owner in
    let rank = g.T.Placed.rank in
    let o : ℕ = c.args.owner in
    let r : ℕ = c.args.rank in
    let rows = c.args.rows.now in
    let first : ℕ = c.partition_point-first.result in
    let count : ℕ = c.partition_point-count.result in
    let below = is_before owner rank o r in
    let p1 = IsPartitionPoint-from_clause below rows first c.partition_point-first.ensures.partitioned (cut_partitioned below rows (cut_before owner rank o r rows c.requires)) (λ a b q k. search rules) in
    let rest_is = take_rest rows first ∙ from_point below rows first c.partition_point-first.ensures.bound p1 in
    let rest = take (length rows - first) (drop first rows) in
    let rise : Rise owner rank rest = subst (Rise owner rank) (sym rest_is) (Rise-filter owner rank (not_before owner rank o r) rows c.requires) in
    let past : AllByRecursion (λ x. not_before owner rank o r x ≡ true) rest = subst (AllByRecursion (λ x. not_before owner rank o r x ≡ true)) (sym rest_is) (filter_passes (not_before owner rank o r) rows) in
    let p2 = IsPartitionPoint-from_clause (ranks owner rank o r) rest count c.partition_point-count.ensures.partitioned (cut_partitioned (ranks owner rank o r) rest (cut_ranks owner rank o r rest rise past)) (λ a b q k. search rules) in
    before_point (ranks owner rank o r) rest count c.partition_point-count.ensures.bound p2
    ∙ ap (filter (ranks owner rank o r)) rest_is
    ∙ filter_within (not_before owner rank o r) (ranks owner rank o r) rows (ranked_passes owner rank o r)
