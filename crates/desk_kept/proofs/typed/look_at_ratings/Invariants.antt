use Rattle.std.proofs.Common.{take, All}
use Rattle.desk_kept.specs.TypedGroups.{IsRating}
use Rattle.desk_kept.proofs.typed.look_at_ratings.Given as goal

abbrev pub invariant-loop-rating : goal.invariant-loop-rating
invariant-loop-rating l = All IsRating (take l.rating-index l.ratings)
