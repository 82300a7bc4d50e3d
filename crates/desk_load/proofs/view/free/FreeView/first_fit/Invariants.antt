use Rattle.std.proofs.Common.{ℕ, ◌+◌, ◌-◌, ◌<◌, ◌≤◌}
use Rattle.desk_load.specs.Starts.{IsAmong}
use Rattle.desk_load.specs.Views.{IsFree, demand_over}
use Rattle.desk_load.proofs.view.free.FreeView.first_fit.Given as goal

abbrev pub invariant-loop-start : goal.invariant-loop-start
invariant-loop-start g l = record {
  among : IsAmong l.among l.start;
  low : l.among.first ≤ l.start;
  none : (s : ℕ) → IsAmong l.among s → s < l.start → IsFree l.self (demand_over l.demand s (s + l.duration)) → ⊥;
}

abbrev pub decreases-loop-start : goal.decreases-loop-start
decreases-loop-start g l = (l.among.last + 1) - l.start
