use Rattle.std.proofs.Common.{◌≡◌, ◌++◌, take, drop, map}
use Rattle.desk_pruned.specs.Starts.{forgotten}
use Rattle.desk_pruned.proofs.roots.forget.Given as goal

abbrev pub invariant-loop-root : goal.invariant-loop-root
invariant-loop-root l = l.root-items ≡ map (forgotten l.pick) (take l.root-index l.fn.roots.items) ++ drop l.root-index l.fn.roots.items
