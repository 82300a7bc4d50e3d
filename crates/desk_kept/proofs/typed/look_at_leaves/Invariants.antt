use Rattle.std.proofs.Common.{take, All}
use Rattle.desk_kept.specs.TypedGroups.{IsLeaf}
use Rattle.desk_kept.proofs.typed.look_at_leaves.Given as goal

abbrev pub invariant-loop-leaf : goal.invariant-loop-leaf
invariant-loop-leaf l = All IsLeaf (take l.leaf-index l.leaves)
