use Rattle.std.proofs.Common.{ℕ, ◌+◌, length}
use Rattle.desk_spans.proofs.Intersecting.{Stands}
use Rattle.desk_spans.proofs.runs.intersect.Given as goal

abbrev pub invariant-loop-left : goal.invariant-loop-left
invariant-loop-left l = (low : ℕ) × Stands low l.both l.left l.right l.a l.b

abbrev pub decreases-loop-left : goal.decreases-loop-left
decreases-loop-left l = length l.left + length l.right
