use Rattle.std.proofs.Common.{length}
use Rattle.tests_pruned.proofs.listed.+is_with.Given as goal

abbrev pub decreases-is_with : goal.decreases-is_with
decreases-is_with l = length l.all.now
