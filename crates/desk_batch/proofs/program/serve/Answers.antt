use Rattle.std.proofs.Common.{subst}
use Rattle.desk_core.specs.Books.{BookState}
use Rattle.desk_talk.specs.Sessions.{Turns}
use Rattle.desk_talk.proofs.Carried.{carried_turns, carried_session}
use Rattle.desk_route.specs.Exchanges.{Exchanged, IsStopped}
use Rattle.desk_batch.specs.Runs.{JoinsPages}
use Rattle.desk_batch.specs.Turns.{OwnTurn, NeverSpent}
use Rattle.desk_route.specs.declared.turns.Serving.{Serving}
use Rattle.desk_batch.specs.declared.turns.Alone.{Alone}
use Rattle.desk_route.proofs.CarriedTurns.{turn_of, stop_of}
use Rattle.desk_batch.proofs.ShownLemmas.{joins_over}
use Rattle.desk_batch.proofs.program.serve.Goals as goal

pub converse-engine-requires-clause-knows : goal.converse-engine-requires-clause-knows
converse-engine-requires-clause-knows g c =
    λ exchanges now turns.
    joins_over c.args.book.opened c.requires.sound exchanges now.taker.book
    (subst (λ (b : BookState). Turns (Exchanged OwnTurn) b exchanges now.taker.book) c.requires.opened
    (carried_turns (λ (e : Serving Alone). e.taker.book) _ (Exchanged OwnTurn)
    (λ s q r t x. (x.0, x.1, turn_of (λ (a : Alone). a.book) _ OwnTurn (λ u k a v y. y) x.0 s.taker q r t.taker x.2)) _ exchanges now turns))

pub returns-clause-session : goal.returns-clause-session
returns-clause-session g c =
    let book = λ (a : Alone). a.book in
    carried_session (λ (e : Serving Alone). e.taker.book) _ (Exchanged OwnTurn) _ (IsStopped OwnTurn NeverSpent)
    (record {
      turn = λ s q r t x. (x.0, x.1, turn_of book _ OwnTurn (λ u k a v y. y) x.0 s.taker q r t.taker x.2);
      stop = λ s q why t x. stop_of book _ OwnTurn _ NeverSpent (λ u k a v y. y) (λ u v y. absurd y) s.taker q why t.taker x;
    })
    _ (JoinsPages c.args.book.opened) (λ xs known. known) _ _ _ _ _ _ _ c.converse-engine.ensures.session
