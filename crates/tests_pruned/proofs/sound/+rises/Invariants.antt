use Rattle.std.proofs.Common.{length}
use Rattle.tests_pruned.proofs.sound.+rises.Given as goal

abbrev pub decreases-rises : goal.decreases-rises
decreases-rises l = length l.positions.now
