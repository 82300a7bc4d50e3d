use Rattle.std.proofs.Common.{length}
use Rattle.desk_need.proofs.same.marks.+have_one.Given as goal

abbrev pub decreases-have_one : goal.decreases-have_one
decreases-have_one l = length l.leaves.now
