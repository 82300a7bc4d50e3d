use Rattle.std.proofs.Common.{◌≡◌, ◌++◌, take, drop, map}
use Rattle.desk_pruned.specs.Starts.{left}
use Rattle.desk_pruned.proofs.roots.leave.Given as goal

abbrev pub invariant-loop-root : goal.invariant-loop-root
invariant-loop-root l = l.root-items ≡ map (left l.start) (take l.root-index l.fn.roots.items) ++ drop l.root-index l.fn.roots.items
