use Rattle.std.proofs.Common.{◌≡◌, vec_len}
use Rattle.desk_load.specs.Changed.{before_of}
use Rattle.desk_load.proofs.changes.opened.OpenIndex.put_all_back.Given as goal

abbrev pub invariant-loop-former : goal.invariant-loop-former
invariant-loop-former l = before_of l.self ≡ before_of l.initial.self

abbrev pub decreases-loop-former : goal.decreases-loop-former
decreases-loop-former l = vec_len l.self.formers
