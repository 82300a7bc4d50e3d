use Rattle.std.proofs.Common.{◌*◌, ◌≤◌}
use Rattle.desk_spans.specs.Pieces.{weight_of}
use Rattle.desk_spans_bench.proofs.separate_pieces.Given as goal

abbrev pub invariant-loop-i : goal.invariant-loop-i
invariant-loop-i l = weight_of l.pieces.items ≤ 1000 * l.i
