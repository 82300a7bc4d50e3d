use Rattle.std.proofs.Common.{◌≤◌, ◌-◌}
use Rattle.desk_spans.specs.Minutes.{EachMinute}
use Rattle.desk_load.specs.Views.{HasRoomAt, demand_at}
use Rattle.desk_load.proofs.view.free.FreeView.gap_in.Given as goal

abbrev pub invariant-loop-minute : goal.invariant-loop-minute
invariant-loop-minute l = record {
  low : l.from ≤ l.minute;
  room : EachMinute l.from l.minute (λ k. HasRoomAt l.self (demand_at l.demand k) k);
}

abbrev pub decreases-loop-minute : goal.decreases-loop-minute
decreases-loop-minute l = l.to - l.minute
