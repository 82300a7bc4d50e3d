use Rattle.std.proofs.Common.{length}
use Rattle.desk_change.proofs.in_use.cites.+is_of_ratings.Given as goal

abbrev pub decreases-is_of_ratings : goal.decreases-is_of_ratings
decreases-is_of_ratings l = length l.ratings.now
