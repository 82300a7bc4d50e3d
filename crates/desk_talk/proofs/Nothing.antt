-- A conversation that ended before it began.
use Rattle.std.proofs.Common.{ℕ, List, [], Option, inl, refl, arith}
use Rattle.std.proofs.KnownBytes.{Appends-nil}
use Rattle.desk_wire.specs.declared.rules.Request.{Request}
use Rattle.desk_wire.specs.declared.responses.Response.{Response}
use Rattle.desk_talk.specs.Sessions.{Exchange, Turns, NothingMore, Session}
use Rattle.desk_talk.specs.declared.ends.SessionEnd.TheVariants as end
use Rattle.desk_talk.specs.declared.ends.Stop.{Stop}
use Rattle.desk_talk.proofs.SessionSteps.{stands_start, ended, cut_off, untold}

-- nothing was taken, done or sent, for want of memory
pub nothing_session : {S : Type 0} (Turn : S → Request → Response → S → Type 0) (Stops : S → Request → Stop → S → Type 0) (Knows : List Exchange → Type 0) (s : S)
    → ((xs : List Exchange) (t : S) → Turns Turn s xs t → Knows xs) → (l h : Option (List ℕ)) → Session Turn Stops Knows l l h h s s end.NoMemory
nothing_session Turn Stops Knows s learns l h =
    let a = stands_start Turn l h s [] refl in
    ended Turn Stops Knows s learns h s end.NoMemory [] a (omega arith) (Appends-nil h) (inl (cut_off Turn Stops Knows s learns h NothingMore s [] a (refl, refl))) (untold l)
