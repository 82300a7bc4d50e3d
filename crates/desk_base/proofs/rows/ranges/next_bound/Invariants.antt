use Rattle.std.proofs.Common.{◌≡◌, take}
use Rattle.desk_base.specs.rows.Ranges.{nearest_bound}
use Rattle.desk_base.proofs.rows.ranges.next_bound.Given as goal

abbrev pub invariant-loop-row : goal.invariant-loop-row
invariant-loop-row g l = l.next ≡ nearest_bound g.T.Timed.from g.T.Timed.to l.minute l.near (take l.row-index l.rows)
