use Rattle.std.proofs.Common.{refl, arith, sym, ◌∙◌}
use Rattle.desk_talk.specs.declared.hearing.Heard.TheVariants.{Request}
use Rattle.desk_talk.proofs.SessionSteps.{stands_start, stands_heard, turn_session, turn_stands, finished_session, fault_heard, takes_bytes, rose_from, hears_at}
use Rattle.desk_talk.proofs.rounds.converse.Goals as goal

pub loop-heard-init : goal.loop-heard-init
loop-heard-init g c = record {
  stands = stands_start g.E.Replier.answers _ _ _ _ c.new-framer.ensures.rest;
  waits = c.new-framer.ensures.ended;
  ready = c.requires.ready;
  budget = omega arith;
  source = omega arith;
  sink = omega arith;
}

pub returns-in_default : goal.returns-in_default
returns-in_default g c =
    let stands = stands_heard c.loop-heard.invariant.stands c.hear-heard.ensures.hears in
    record {
      ready = c.loop-heard.invariant.ready;
      session =
          finished_session g.E.Replier.answers g.E.Replier.stops (g.E.Replier.knows c.args.engine) c.args.engine c.requires.knows _ _ _ _ _ stands c.hear-heard.ensures.budget
          c.hear-heard.ensures.hears.heard c.hear-heard.ensures.input c.in_default.not-Request c.finish.ensures.finished
          c.is_empty-empty.ensures.0 c.is_empty-empty.ensures.1 c.hear-heard.ensures.spent;
      read_fault = λ e. rose_from _ _ _ c.loop-heard.invariant.source (c.hear-heard.ensures.cause (fault_heard _ _ _ _ _ c.in_default.not-Request c.finish.ensures.finished e));
      write_fault = λ e. rose_from _ _ _ c.loop-heard.invariant.sink (c.finish.ensures.cause e);
      source = omega (arith, c.loop-heard.invariant.source, c.hear-heard.ensures.rising);
      sink = omega (arith, c.loop-heard.invariant.sink, c.finish.ensures.rising);
    }

pub returns-in-Some-clause-session : goal.returns-in-Some-clause-session
returns-in-Some-clause-session g c =
    let hears = hears_at (Request c.in-Request.request) c.in-Request.is c.hear-heard.ensures.hears in
    turn_session g.E.Replier.answers g.E.Replier.stops (g.E.Replier.knows c.args.engine) c.args.engine c.requires.knows _ _ c.in-Request.request c.in-Request.request.close _
    c.reply_and_send-next.result.1 c.in-Some.end
    (stands_heard c.loop-heard.invariant.stands hears) c.hear-heard.ensures.budget hears.heard.0 refl c.reply_and_send-next.ensures.replied (sym c.turn_end.ensures ∙ c.in-Some.is)

pub loop-heard-smaller : goal.loop-heard-smaller
loop-heard-smaller g c =
    let hears = hears_at (Request c.in-Request.request) c.in-Request.is c.hear-heard.ensures.hears in
    takes_bytes _ _ _ _ _ _ c.in-Request.request c.hear-heard.ensures.budget hears

pub loop-heard-preserved : goal.loop-heard-preserved
loop-heard-preserved g c =
    let hears = hears_at (Request c.in-Request.request) c.in-Request.is c.hear-heard.ensures.hears in
    record {
      stands =
          turn_stands g.E.Replier.stops _ _ c.in-Request.request c.in-Request.request.close _ c.reply_and_send-next.result.1
          (stands_heard c.loop-heard.invariant.stands hears) hears.heard.0 refl c.reply_and_send-next.ensures.replied (sym c.turn_end.ensures ∙ c.in_default-turn_end.is);
      waits = hears.heard.1;
      ready = c.reply_and_send-next.ensures.ready;
      budget = c.hear-heard.ensures.budget;
      source = omega (arith, c.loop-heard.invariant.source, c.hear-heard.ensures.rising);
      sink = omega (arith, c.loop-heard.invariant.sink, c.reply_and_send-next.ensures.rising);
    }
