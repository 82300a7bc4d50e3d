use Rattle.std.proofs.Common.{rules, ℕ}
use Rattle.std.proofs.lemmas.List.Sorted.{IsPartitionPoint-from_clause}
use Rattle.desk_base.specs.declared.rows.bookings.BookingRow.{BookingRow}
use Rattle.desk_base.proofs.lists.Cuts.{cut_partitioned, before_point, is_below, cut_below}
use Rattle.desk_load.proofs.by_number.below.Goals as goal

pub returns : goal.returns
returns c =
    let rank : BookingRow → ℕ = λ x. 0 in
    let test = is_below (λ (x : BookingRow). x.id) rank c.args.number in
    let rows = c.args.rows.now in
    let point = IsPartitionPoint-from_clause test rows c.partition_point-count.result c.partition_point-count.ensures.partitioned (cut_partitioned test rows (cut_below (λ (x : BookingRow). x.id) rank c.args.number rows c.requires)) (λ a r q k. search rules) in
    before_point test rows c.partition_point-count.result c.partition_point-count.ensures.bound point
