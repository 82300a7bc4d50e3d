use Rattle.std.proofs.Common.{length}
use Rattle.desk_change.proofs.in_use.+citing_among.Given as goal

abbrev pub decreases-citing_among : goal.decreases-citing_among
decreases-citing_among l = length l.all.now
