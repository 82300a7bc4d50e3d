use Rattle.std.proofs.Common.{◌<◌, ◌≤◌, ◌-◌}
use Rattle.desk_talk.specs.Hearing.{counted_limit}
use Rattle.desk_talk.proofs.HearingSteps.{Fills, IsUntouched}
use Rattle.desk_talk.proofs.hearing.hear.Given as goal

abbrev pub invariant-loop-request : goal.invariant-loop-request
invariant-loop-request g l = record {
  fills : Fills (g.S.Source.left l.fn.source) (g.S.Source.left l.source) l.before l.taken l.fn.framer l.framer;
  first : IsUntouched l.fn.source l.source l.before l.taken l.fn.framer l.framer;
  budget : l.taken < counted_limit;
  rising : g.S.Source.fault_count l.fn.source ≤ g.S.Source.fault_count l.source;
}

abbrev pub decreases-loop-request : goal.decreases-loop-request
decreases-loop-request g l = counted_limit - l.taken
