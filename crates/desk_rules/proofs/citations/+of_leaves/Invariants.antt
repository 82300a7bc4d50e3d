use Rattle.std.proofs.Common.{length}
use Rattle.desk_rules.proofs.citations.+of_leaves.Given as goal

abbrev pub decreases-of_leaves : goal.decreases-of_leaves
decreases-of_leaves l = length l.leaves.now
