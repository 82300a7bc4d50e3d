use Rattle.std.proofs.Common.{length}
use Rattle.desk_change.proofs.in_use.cites.+is_of_ids.Given as goal

abbrev pub decreases-is_of_ids : goal.decreases-is_of_ids
decreases-is_of_ids g l = length l.ids.now
