use Rattle.std.proofs.Common.{◌≡◌, ◌-◌, ◌*◌, ◌^◌, ◌≤◌, drop, min}
use Rattle.std.specs.Int.RustNames.{unsigned_abs}
use Rattle.desk_spans.specs.Timeline.{sum_on}
use Rattle.desk_spans.proofs.Walks.{Walks}
use Rattle.desk_spans.proofs.profile.Profile.sum.Given as goal

abbrev pub invariant-loop-stretch : goal.invariant-loop-stretch
invariant-loop-stretch l = record {
  walks : Walks l.self l.from l.start (drop l.stretch-index l.stretch-items);
  total : l.total ≡ sum_on l.self l.from (min l.start l.to);
  size : unsigned_abs l.total ≤ (min l.start l.to - l.from) * 2 ^ 63;
}
