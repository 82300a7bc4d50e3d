use Rattle.std.proofs.Common.{◌≡◌, take, map}
use Rattle.desk_pruned.specs.Starts.{unasked_root}
use Rattle.desk_pruned.proofs.roots.unasked_roots.Given as goal

abbrev pub invariant-loop-pick : goal.invariant-loop-pick
invariant-loop-pick l = l.roots ≡ map unasked_root (take l.pick-index l.choices)
