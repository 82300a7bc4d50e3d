use Rattle.std.proofs.Common.{ℕ, ◌+◌, ◌-◌, ◌<◌, ◌≤◌}
use Rattle.desk_feasible.specs.Grid.{IsInSteps}
use Rattle.desk_feasible.specs.Live.{IsPickStart}
use Rattle.desk_feasible.proofs.lives.pick_starts.PickStarts.next_start.Given as goal

abbrev pub invariant-loop-start : goal.invariant-loop-start
invariant-loop-start l = record {
  steps : IsInSteps l.self.asked.group l.start;
  low : l.low ≤ l.start;
  none : (s : ℕ) → l.low ≤ s → s < l.start → IsPickStart l.self s → ⊥;
}

abbrev pub decreases-loop-start : goal.decreases-loop-start
decreases-loop-start l = (l.self.last + 1) - l.start
