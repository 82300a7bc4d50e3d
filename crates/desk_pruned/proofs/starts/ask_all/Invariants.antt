use Rattle.std.proofs.Common.{◌≡◌, ◌≤◌, ◌+◌, [], false, take}
use Rattle.std.specs.Prelude.{Contains}
use Rattle.desk_pruned.specs.declared.roots.Root.{Root}
use Rattle.desk_pruned.specs.Cuts.{cut_at}
use Rattle.desk_pruned.specs.Starts.{AreRoots, is_unasked, unasked}
use Rattle.desk_pruned.proofs.starts.ask_all.Given as goal

abbrev pub invariant-loop-root : goal.invariant-loop-root
invariant-loop-root g l = record {
  roots : AreRoots (g.S.Explored.ways l.space) (cut_at l.start [] l.tried) l.root-items;
  asked : (r : Root) → Contains (take l.root-index l.root-items) r → is_unasked r.next ≡ false;
  spent : l.steps + unasked l.root-items ≤ l.fn.steps + unasked l.fn.roots.items;
}
