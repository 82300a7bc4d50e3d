use Rattle.std.proofs.Common.{◌≤◌, ◌-◌}
use Rattle.desk_base.specs.rules.Limits.{first_minute}
use Rattle.desk_spans.specs.Minutes.{EachMinute}
use Rattle.desk_load.specs.Overs.{BearsStanding}
use Rattle.desk_load.proofs.view.free.FreeView.over_on.Given as goal

abbrev pub invariant-loop-minute : goal.invariant-loop-minute
invariant-loop-minute l = record {
  low : first_minute ≤ l.minute;
  within : EachMinute first_minute l.minute (λ k. BearsStanding l.self.tables l.resource k);
}

abbrev pub decreases-loop-minute : goal.decreases-loop-minute
decreases-loop-minute l = l.end - l.minute
