use Rattle.std.proofs.Common.{◌-◌, ◌^◌}
use Rattle.desk_need.proofs.CandidateLemmas.{AreHeldBelow}
use Rattle.desk_need.proofs.cases.required.required_candidates.Given as goal

abbrev pub invariant-rising : goal.invariant-rising
invariant-rising l = AreHeldBelow l.tables l.leaf l.from l.out.items

abbrev pub decreases-rising : goal.decreases-rising
decreases-rising l = 2 ^ 32 - l.from
