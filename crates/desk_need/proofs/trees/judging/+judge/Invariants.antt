use Rattle.std.proofs.Common.{length}
use Rattle.desk_need.proofs.trees.judging.+judge.Given as goal

abbrev pub decreases-judge : goal.decreases-judge
decreases-judge l = length l.nodes.now
