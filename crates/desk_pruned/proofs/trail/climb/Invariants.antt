use Rattle.std.proofs.Common.{◌≡◌, ◌≤◌, ◌+◌, length}
use Rattle.desk_pruned.specs.Costs.{left_at}
use Rattle.desk_pruned.specs.Trails.{IsOn}
use Rattle.desk_pruned.proofs.cutting.Climbing.{IsKept}
use Rattle.desk_pruned.proofs.trail.climb.Given as goal

abbrev pub invariant-loop-tried : goal.invariant-loop-tried
invariant-loop-tried g l = record {
  held : g.S.Explored.holds l.space l.view l.trail.start l.trail.picks.items;
  start : l.trail.start ≡ l.fn.trail.start;
  on : IsOn (g.S.Explored.ways l.space) l.trail.start l.trail.picks.items;
  kept : IsKept (g.S.Explored.ways l.space) l.trail.start l.fn.trail.picks.items l.fn.tried l.trail.picks.items l.tried;
  spent : l.steps + left_at (g.S.Explored.ways l.space) l.trail.picks.items l.tried ≤ l.fn.steps + left_at (g.S.Explored.ways l.space) l.fn.trail.picks.items l.fn.tried;
}

abbrev pub decreases-loop-tried : goal.decreases-loop-tried
decreases-loop-tried g l = length l.trail.picks.items
