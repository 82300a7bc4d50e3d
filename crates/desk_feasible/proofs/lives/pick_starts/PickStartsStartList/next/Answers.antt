use Rattle.std.proofs.Common.{ap, arith}
use Rattle.desk_feasible.specs.Live.{PickRun}
use Rattle.desk_feasible.proofs.lives.pick_starts.PickStartsStartList.next.Goals as goal

pub overflow_add-result : goal.overflow_add-result
overflow_add-result c =
    let start = c.in-Some.ensures.1 in
    let inside = c.self.invariant.2 c.in-Some.start (omega (arith, start.low, ap (λ (x : PickRun). x.first) c.self.view_is)) (omega (arith, start.high, ap (λ (x : PickRun). x.last) c.self.view_is)) in
    omega (arith, inside)
