use Rattle.std.proofs.Common.{◌≡◌, ◌≤ℤ◌, ◌<◌, drop}
use Rattle.desk_spans.specs.Minutes.{EachMinute, SomeMinute}
use Rattle.desk_spans.specs.Timeline.{value_at}
use Rattle.desk_spans.proofs.Walks.{Walks}
use Rattle.desk_spans.proofs.profile.Profile.least_on.Given as goal

abbrev pub invariant-loop-stretch : goal.invariant-loop-stretch
invariant-loop-stretch l = record {
  walks : Walks l.self l.from l.start (drop l.stretch-index l.stretches);
  bound : EachMinute l.from l.start (λ m. m < l.to → l.least ≤ℤ value_at l.self m);
  reached : SomeMinute l.from l.to (λ m. value_at l.self m ≡ l.least);
}
