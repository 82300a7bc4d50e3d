use Rattle.std.proofs.Common.{◌*◌, ◌≤◌}
use Rattle.desk_spans.specs.Pieces.{weight_of}
use Rattle.desk_spans_bench.proofs.scattered_pieces.Given as goal

abbrev pub invariant-loop : goal.invariant-loop
invariant-loop l = weight_of l.pieces.items ≤ 1000 * l.counter
