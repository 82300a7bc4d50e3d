use Rattle.std.proofs.Common.{length}
use Rattle.desk_base.proofs.search.order.+picks_cmp.Given as goal

abbrev pub decreases-picks_cmp : goal.decreases-picks_cmp
decreases-picks_cmp l = length l.a.now
