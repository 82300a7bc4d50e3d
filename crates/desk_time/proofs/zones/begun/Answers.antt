use Rattle.std.proofs.Common.{nat_le, rules}
use Rattle.std.proofs.lemmas.List.Sorted.{IsPartitionPoint-from_clause, IsPartitionedBy-leb}
use Rattle.desk_time.proofs.ShiftLemmas.{shifts_rise, some_begun, last_shift-begun}
use Rattle.desk_time.proofs.zones.begun.Goals as goal

pub returns-clause-some : goal.returns-clause-some
returns-clause-some c =
    let shifts = c.args.shifts.now in
    let point = IsPartitionPoint-from_clause (λ s. nat_le s.0 c.args.minute) shifts c.partition_point.result c.partition_point.ensures.partitioned (IsPartitionedBy-leb (λ s. s.0) shifts c.args.minute (shifts_rise shifts c.requires.zone)) (λ a r q k. search rules) in
    some_begun shifts c.requires.zone c.args.minute c.requires.minute.0 c.partition_point.result c.partition_point.ensures.bound point

pub returns-clause-last : goal.returns-clause-last
returns-clause-last c =
    let shifts = c.args.shifts.now in
    let point = IsPartitionPoint-from_clause (λ s. nat_le s.0 c.args.minute) shifts c.partition_point.result c.partition_point.ensures.partitioned (IsPartitionedBy-leb (λ s. s.0) shifts c.args.minute (shifts_rise shifts c.requires.zone)) (λ a r q k. search rules) in
    last_shift-begun shifts c.requires.zone c.args.minute c.requires.minute.0 c.partition_point.result c.partition_point.ensures.bound point
