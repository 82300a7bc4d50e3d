use Rattle.std.proofs.Common.{◌≡◌, ◌<◌, ◌≤◌, ◌+◌, ◌-◌, length, None}
use Rattle.desk_talk.specs.Hearing.{counted_limit}
use Rattle.desk_talk.proofs.SessionSteps.{Stands}
use Rattle.desk_talk.proofs.rounds.converse.Given as goal

abbrev pub invariant-loop-heard : goal.invariant-loop-heard
invariant-loop-heard g l = record {
  stands : Stands g.E.Replier.answers (g.S.Source.left l.fn.source) (g.S.Source.left l.source) (g.W.Sink.held l.fn.sink) (g.W.Sink.held l.sink) l.fn.engine l.now l.framer.rest l.taken;
  waits : l.framer.ended ≡ None;
  ready : g.E.Replier.ready l.now;
  budget : l.taken < counted_limit;
  source : g.S.Source.fault_count l.fn.source ≤ g.S.Source.fault_count l.source;
  sink : g.W.Sink.fault_count l.fn.sink ≤ g.W.Sink.fault_count l.sink;
}

abbrev pub decreases-loop-heard : goal.decreases-loop-heard
decreases-loop-heard g l = (counted_limit - l.taken) + length l.framer.rest
