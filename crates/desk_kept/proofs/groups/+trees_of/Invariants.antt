use Rattle.std.proofs.Common.{length}
use Rattle.desk_kept.proofs.groups.+trees_of.Given as goal

abbrev pub decreases-trees_of : goal.decreases-trees_of
decreases-trees_of l = length l.nodes.now
