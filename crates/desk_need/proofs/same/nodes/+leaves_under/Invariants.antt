use Rattle.std.proofs.Common.{length}
use Rattle.desk_need.proofs.same.nodes.+leaves_under.Given as goal

abbrev pub decreases-leaves_under : goal.decreases-leaves_under
decreases-leaves_under l = length l.nodes.now
