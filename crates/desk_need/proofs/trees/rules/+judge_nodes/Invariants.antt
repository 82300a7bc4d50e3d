use Rattle.std.proofs.Common.{length}
use Rattle.desk_need.proofs.trees.rules.+judge_nodes.Given as goal

abbrev pub decreases-judge_nodes : goal.decreases-judge_nodes
decreases-judge_nodes l = length l.nodes.now
