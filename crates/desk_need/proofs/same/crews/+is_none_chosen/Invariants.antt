use Rattle.std.proofs.Common.{length}
use Rattle.desk_need.proofs.same.crews.+is_none_chosen.Given as goal

abbrev pub decreases-is_none_chosen : goal.decreases-is_none_chosen
decreases-is_none_chosen l = length l.leaves.now
