use Rattle.std.proofs.Common.{length}
use Rattle.desk_change.proofs.in_use.cites.+is_among.Given as goal

abbrev pub decreases-is_among : goal.decreases-is_among
decreases-is_among l = length l.keys.now
