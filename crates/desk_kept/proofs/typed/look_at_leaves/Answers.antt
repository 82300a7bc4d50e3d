use Rattle.std.proofs.Common.{arith}
use Rattle.desk_kept.specs.TypedGroups.{IsLeaf}
use Rattle.desk_kept.proofs.Looks.{one_more, all_seen}
use Rattle.desk_kept.proofs.typed.look_at_leaves.Goals as goal

pub loop-leaf-preserved : goal.loop-leaf-preserved
loop-leaf-preserved c =
    one_more IsLeaf c.args.leaves.now c.as_slice-leaf-items.result.now c.as_slice-leaf-items.ensures c.loop-leaf.leaf-index c.leaf-item.result (omega arith) c.leaf-item.is c.loop-leaf.invariant c.look_at_leaf.ensures

pub returns : goal.returns
returns c = all_seen IsLeaf c.args.leaves.now c.as_slice-leaf-items.result.now c.as_slice-leaf-items.ensures c.loop-leaf.leaf-index (omega arith) c.loop-leaf.invariant
