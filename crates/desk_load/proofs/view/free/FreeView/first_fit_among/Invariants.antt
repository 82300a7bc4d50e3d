use Rattle.std.proofs.Common.{ℕ, ◌+◌, ◌-◌, ◌<◌, ◌≤◌}
use Rattle.desk_base.specs.rules.Limits.{end_of_minutes}
use Rattle.desk_load.specs.Views.{IsFree, demand_over}
use Rattle.desk_load.proofs.view.free.FreeView.first_fit_among.Given as goal

abbrev pub invariant-fits : goal.invariant-fits
invariant-fits g l = record {
  high : l.minute ≤ end_of_minutes;
  none : (s : ℕ) → g.S.StartList.has l.starts s → s < l.minute → IsFree l.self (demand_over l.demand s (s + l.duration)) → ⊥;
}

abbrev pub decreases-fits : goal.decreases-fits
decreases-fits g l = end_of_minutes - l.minute
