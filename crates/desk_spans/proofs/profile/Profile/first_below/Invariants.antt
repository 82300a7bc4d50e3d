use Rattle.std.proofs.Common.{◌≤ℤ◌, ◌<◌, drop}
use Rattle.desk_spans.specs.Minutes.{EachMinute}
use Rattle.desk_spans.specs.Timeline.{value_at}
use Rattle.desk_spans.proofs.Walks.{Walks}
use Rattle.desk_spans.proofs.profile.Profile.first_below.Given as goal

abbrev pub invariant-loop-stretch : goal.invariant-loop-stretch
invariant-loop-stretch l = record {
  walks : Walks l.self l.from l.start (drop l.stretch-index l.stretch-items);
  before : EachMinute l.from l.start (λ m. m < l.to → l.bound ≤ℤ value_at l.self m);
}
