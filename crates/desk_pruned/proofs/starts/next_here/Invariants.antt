use Rattle.std.proofs.Common.{◌≤◌, ◌+◌, [], take}
use Rattle.desk_pruned.specs.Cuts.{cut_at}
use Rattle.desk_pruned.specs.Starts.{AreRoots, unasked}
use Rattle.desk_pruned.proofs.cutting.NextPicks.{NoneAmong}
use Rattle.desk_pruned.proofs.starts.next_here.Given as goal

abbrev pub invariant-loop-root : goal.invariant-loop-root
invariant-loop-root g l = record {
  roots : AreRoots (g.S.Explored.ways l.space) (cut_at l.start [] l.tried) l.root-items;
  none : NoneAmong (g.S.Explored.ways l.space) l.start [] l.tried (take l.root-index ((g.S.Explored.ways l.space).choices 0));
  spent : l.steps + unasked l.root-items ≤ l.fn.steps + unasked l.fn.roots.items;
}
