use Rattle.std.proofs.Common.{length}
use Rattle.desk_need.proofs.same.crews.+ask_for_crew.Given as goal

abbrev pub decreases-ask_for_crew : goal.decreases-ask_for_crew
decreases-ask_for_crew l = length l.nodes.now
