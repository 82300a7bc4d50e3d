use Rattle.std.proofs.Common.{◌≡◌, ◌≤◌, ◌+◌, ◌-◌, ◌*◌, List, option_copied}
use Rattle.desk_base.specs.declared.search.results.Position.{Position}
use Rattle.desk_base.specs.rules.Limits.{passed_limit}
use Rattle.desk_pruned.specs.Costs.{beside}
use Rattle.desk_pruned.specs.Starts.{unasked}
use Rattle.desk_pruned.specs.Counts.{cut_due}
use Rattle.desk_pruned.specs.Trails.{HasGone}
use Rattle.desk_pruned.proofs.paging.Showing.{IsShowing}
use Rattle.desk_pruned.proofs.pages.intervals.show_on.Given as goal

abbrev pub invariant-show : goal.invariant-show
invariant-show g l = record {
  leaves : l.leaves ≡ (g.S.Explored.ways l.space).leaves;
  held : g.S.Explored.holds l.space l.view l.trail.start l.trail.picks.items;
  gone : HasGone (g.S.Explored.ways l.space) (cut_due l.per l.next l.start l.count) l.found l.trail.start l.trail.picks.items l.roots.items;
  so_far : (passed : List Position) × IsShowing (g.S.Explored.ways l.space) l.per (option_copied l.after) l.shown l.limit passed l.rows l.next l.start l.count l.passed;
  spent : l.steps + beside (g.S.Explored.ways l.space) l.trail.picks.items + unasked l.roots.items ≤ l.fn.steps + beside (g.S.Explored.ways l.space) l.fn.trail.picks.items + unasked l.fn.roots.items + l.passed * ((g.S.Explored.ways l.space).resources + 1);
  small : l.count ≤ l.shown + l.passed;
}

abbrev pub decreases-show : goal.decreases-show
decreases-show g l = passed_limit - l.passed
