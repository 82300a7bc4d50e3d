use Rattle.std.proofs.Common.{length}
use Rattle.desk_need.proofs.same.marks.+each_has.Given as goal

abbrev pub decreases-each_has : goal.decreases-each_has
decreases-each_has l = length l.leaves.now
