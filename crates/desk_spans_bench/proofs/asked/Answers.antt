use Rattle.std.proofs.Common.{arith}
use Rattle.desk_spans.proofs.PieceLemmas.{sum_at-le}
use Rattle.desk_spans_bench.proofs.asked.Goals as goal

pub build-requires-clause-bounds : goal.build-requires-clause-bounds
build-requires-clause-bounds c m low high =
    rw c.deref.ensures.value (omega (arith, sum_at-le c.in_ok-pieces.pieces.items m, c.in_ok-pieces.ensures))
