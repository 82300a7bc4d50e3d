use Rattle.std.proofs.Common.{◌≡◌, ◌≤◌, ◌+◌, length, take, drop}
use Rattle.desk_pruned.specs.Costs.{owed}
use Rattle.desk_pruned.proofs.cutting.NextPicks.{NoneAmong}
use Rattle.desk_pruned.proofs.children.next_pick.Given as goal

abbrev pub invariant-loop-pick : goal.invariant-loop-pick
invariant-loop-pick g l = record {
  items : l.pick-items ≡ (g.S.Explored.ways l.space).choices (length l.picks);
  none : NoneAmong (g.S.Explored.ways l.space) l.start l.picks l.tried (take l.pick-index l.pick-items);
  spent : l.steps + owed l.tried (drop l.pick-index l.pick-items) ≤ l.fn.steps + owed l.tried l.pick-items;
}
