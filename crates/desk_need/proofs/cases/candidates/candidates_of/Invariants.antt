use Rattle.std.proofs.Common.{take}
use Rattle.desk_need.specs.Candidates.{AreCandidatesOf}
use Rattle.desk_need.proofs.cases.candidates.candidates_of.Given as goal

abbrev pub invariant-loop-leaf : goal.invariant-loop-leaf
invariant-loop-leaf l = AreCandidatesOf l.tables (take l.leaf-index l.leaves) l.out.items
