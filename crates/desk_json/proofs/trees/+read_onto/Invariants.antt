use Rattle.std.proofs.Common.{◌≡◌, drop}
use Rattle.serde_json.specs.View.{view, items_view}
use Rattle.desk_json.specs.TreeReading.{tree_onto, each_onto}
use Rattle.desk_json.proofs.trees.+read_onto.Given as goal

abbrev pub decreases-read_onto : goal.decreases-read_onto
decreases-read_onto l = l.levels

abbrev pub invariant-loop-child : goal.invariant-loop-child
invariant-loop-child l = tree_onto l.levels l.field l.fn.tree (view l.node) ≡ each_onto (tree_onto l.below l.field) l.tree (items_view (drop l.child-index l.child-items))
