use Rattle.std.proofs.Common.{length}
use Rattle.tests_pruned.proofs.listed.+has.Given as goal

abbrev pub decreases-has : goal.decreases-has
decreases-has l = length l.lives.now
