use Rattle.std.proofs.Common.{arith}
use Rattle.desk_kept.specs.TypedGroups.{IsRating}
use Rattle.desk_kept.proofs.Looks.{one_more, all_seen}
use Rattle.desk_kept.proofs.typed.look_at_ratings.Goals as goal

pub loop-rating-preserved : goal.loop-rating-preserved
loop-rating-preserved c =
    one_more IsRating c.args.ratings.now c.as_slice-rating-items.result.now c.as_slice-rating-items.ensures c.loop-rating.rating-index c.rating-item.result (omega arith) c.rating-item.is c.loop-rating.invariant c.look_at_rating.ensures

pub returns : goal.returns
returns c = all_seen IsRating c.args.ratings.now c.as_slice-rating-items.result.now c.as_slice-rating-items.ensures c.loop-rating.rating-index (omega arith) c.loop-rating.invariant
