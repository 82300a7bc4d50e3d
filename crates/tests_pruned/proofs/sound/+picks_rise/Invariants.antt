use Rattle.std.proofs.Common.{length}
use Rattle.tests_pruned.proofs.sound.+picks_rise.Given as goal

abbrev pub decreases-picks_rise : goal.decreases-picks_rise
decreases-picks_rise l = length l.picks.now
