use Rattle.std.proofs.Common.{◌≡◌, ◌≤◌, ◌-◌, pos}
use Rattle.desk_spans.specs.Minutes.{EachMinute}
use Rattle.desk_spans.specs.Timeline.{end_of, value_at}
use Rattle.desk_load.specs.Boards.{measured}
use Rattle.desk_load.proofs.view.free.FreeView.profile.Given as goal

abbrev pub invariant-loop-minute : goal.invariant-loop-minute
invariant-loop-minute l = record {
  begun : l.profile.from ≡ l.from;
  end : end_of l.profile ≡ l.minute;
  low : l.from ≤ l.minute;
  high : l.minute ≤ l.to;
  values : EachMinute l.from l.minute (λ m. value_at l.profile m ≡ pos (measured l.measure l.self.tables l.resource m));
}

abbrev pub decreases-loop-minute : goal.decreases-loop-minute
decreases-loop-minute l = l.to - l.minute
