use Rattle.std.proofs.Common.{length}
use Rattle.desk_rules.proofs.citations.+of_ratings.Given as goal

abbrev pub decreases-of_ratings : goal.decreases-of_ratings
decreases-of_ratings l = length l.ratings.now
