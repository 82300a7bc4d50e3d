use Rattle.std.proofs.Common.{◌≡◌, ◌≤◌, ◌+◌, ◌-◌, ◌*◌, List, option_copied}
use Rattle.desk_base.specs.declared.search.results.Position.{Position}
use Rattle.desk_base.specs.rules.Limits.{passed_limit}
use Rattle.desk_pruned.specs.Costs.{beside}
use Rattle.desk_pruned.specs.Starts.{unasked}
use Rattle.desk_pruned.specs.Trails.{HasGone, cut_after}
use Rattle.desk_pruned.proofs.paging.Passing.{IsSoFar}
use Rattle.desk_pruned.proofs.pages.all_rows.pass_on.Given as goal

abbrev pub invariant-pass : goal.invariant-pass
invariant-pass g l = record {
  leaves : l.leaves ≡ (g.S.Explored.ways l.space).leaves;
  held : g.S.Explored.holds l.space l.view l.trail.start l.trail.picks.items;
  gone : HasGone (g.S.Explored.ways l.space) (cut_after l.next) l.found l.trail.start l.trail.picks.items l.roots.items;
  so_far : (passed : List Position) × IsSoFar (g.S.Explored.ways l.space) (option_copied l.after) l.limit passed l.rows l.next l.passed;
  spent : l.steps + beside (g.S.Explored.ways l.space) l.trail.picks.items + unasked l.roots.items ≤ l.fn.steps + beside (g.S.Explored.ways l.space) l.fn.trail.picks.items + unasked l.fn.roots.items + l.passed * ((g.S.Explored.ways l.space).resources + 1);
}

abbrev pub decreases-pass : goal.decreases-pass
decreases-pass g l = passed_limit - l.passed
