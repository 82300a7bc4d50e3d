use Rattle.std.proofs.Common.{length}
use Rattle.desk_rules.proofs.citations.+of_ids.Given as goal

abbrev pub decreases-of_ids : goal.decreases-of_ids
decreases-of_ids g l = length l.ids.now
