use Rattle.std.proofs.Common.{length}
use Rattle.desk_rules.proofs.citations.+missing_among.Given as goal

abbrev pub decreases-missing_among : goal.decreases-missing_among
decreases-missing_among l = length l.keys.now
