use Rattle.std.proofs.Common.{length}
use Rattle.desk_need.proofs.same.nodes.+first_broken_same.Given as goal

abbrev pub decreases-first_broken_same : goal.decreases-first_broken_same
decreases-first_broken_same l = length l.nodes.now
