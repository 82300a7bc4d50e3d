use Rattle.std.proofs.Common.{◌≡◌, ◌≤◌, ◌-◌, pos, ◌+ℤ◌, cond}
use Rattle.desk_base.specs.meaning.Time.{covers}
use Rattle.desk_base.specs.rules.Limits.{first_minute, end_of_minutes}
use Rattle.desk_spans.specs.Minutes.{EachMinute}
use Rattle.desk_spans.specs.Timeline.{end_of, value_at}
use Rattle.desk_load.specs.Links.{signed}
use Rattle.desk_load.proofs.changes.shared.shared.Given as goal

abbrev pub invariant-loop-minute : goal.invariant-loop-minute
invariant-loop-minute l = record {
  begun : l.profile.from ≡ first_minute;
  end : end_of l.profile ≡ l.minute;
  low : first_minute ≤ l.minute;
  high : l.minute ≤ end_of_minutes;
  values : EachMinute first_minute l.minute (λ m. value_at l.profile m ≡ value_at l.target m +ℤ signed l.turn (cond (covers l.from l.to m) (value_at l.source m) (pos 0)));
}

abbrev pub decreases-loop-minute : goal.decreases-loop-minute
decreases-loop-minute l = end_of_minutes - l.minute
