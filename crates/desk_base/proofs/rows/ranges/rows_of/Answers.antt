use Rattle.std.proofs.Common.{rules, ◌≡◌, ℕ, ◌-◌, true, length, take, drop, ◌∙◌, ap, sym, subst}
use Rattle.std.proofs.lemmas.List.{take_rest}
use Rattle.std.proofs.lemmas.List.Sorted.{IsPartitionPoint-from_clause}
use Rattle.std.specs.Prelude.{filter}
use Rattle.std.specs.List.{AllByRecursion}
use Rattle.desk_base.specs.rows.Ranges.{Rise, owns}
use Rattle.desk_base.proofs.lists.Cuts.{cut_partitioned, before_point, from_point, filter_passes, filter_within, Rise-filter, is_below, not_below, cut_below, cut_owns, owned_passes}
use Rattle.desk_base.proofs.rows.ranges.rows_of.Goals as goal

pub returns : goal.returns
returns g c =
    let owner = g.T.Placed.owner in
    let rank = g.T.Placed.rank in
    let o : ℕ = c.args.owner in
    let rows = c.args.rows.now in
    let first : ℕ = c.partition_point-first.result in
    let count : ℕ = c.partition_point-count.result in
    let below = is_below owner rank o in
    let p1 = IsPartitionPoint-from_clause below rows first c.partition_point-first.ensures.partitioned (cut_partitioned below rows (cut_below owner rank o rows c.requires)) (λ a r q k. search rules) in
    let rest_is = take_rest rows first ∙ from_point below rows first c.partition_point-first.ensures.bound p1 in
    let rest = take (length rows - first) (drop first rows) in
    let rise : Rise owner rank rest = subst (Rise owner rank) (sym rest_is) (Rise-filter owner rank (not_below owner rank o) rows c.requires) in
    let past : AllByRecursion (λ x. not_below owner rank o x ≡ true) rest = subst (AllByRecursion (λ x. not_below owner rank o x ≡ true)) (sym rest_is) (filter_passes (not_below owner rank o) rows) in
    let p2 = IsPartitionPoint-from_clause (owns owner o) rest count c.partition_point-count.ensures.partitioned (cut_partitioned (owns owner o) rest (cut_owns owner rank o rest rise past)) (λ a r q k. search rules) in
    before_point (owns owner o) rest count c.partition_point-count.ensures.bound p2
    ∙ ap (filter (owns owner o)) rest_is
    ∙ filter_within (not_below owner rank o) (owns owner o) rows (owned_passes owner rank o)
