use Rattle.desk_base.specs.meaning.Picks.{pattern_of}
use Rattle.desk_need.proofs.BadShapes.{BeginTo}
use Rattle.desk_need.proofs.trees.shape.bad_leaf_of.Given as goal

abbrev pub invariant-loop-count : goal.invariant-loop-count
invariant-loop-count l = BeginTo l.nodes (pattern_of l.picks) l.count
