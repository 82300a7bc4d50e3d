use Rattle.std.proofs.Common.{length}
use Rattle.desk_feasible.proofs.serving.+first_unserved.Given as goal

abbrev pub decreases-first_unserved : goal.decreases-first_unserved
decreases-first_unserved l = length l.leaves.now
