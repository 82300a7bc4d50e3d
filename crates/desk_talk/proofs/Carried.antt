-- A session over one kind of state is one over another, where each turn is.
use Rattle.std.proofs.Common.{ℕ, inl, inr, List, [], ◌∷◌, Option, ap}
use Rattle.desk_wire.specs.Requests.{End}
use Rattle.desk_wire.specs.declared.rules.Request.{Request}
use Rattle.desk_wire.specs.declared.responses.Response.{Response}
use Rattle.desk_talk.specs.Sessions.{Exchange, Turns, Answered, AnsweredSoFar, NothingMore, OneMoreTurn, PartOfClosing, OneMoreStop, CutOff, IsEnding, Session}
use Rattle.desk_talk.specs.declared.ends.SessionEnd.{SessionEnd}
use Rattle.desk_talk.specs.declared.ends.SessionEnd.TheVariants as end
use Rattle.desk_talk.specs.declared.ends.Stop.{Stop}
use Rattle.desk_talk.specs.declared.ends.Stop.TheVariants as stop

pub carried_turns : {S U : Type 0} (f : S → U) (T : S → Request → Response → S → Type 0) (T' : U → Request → Response → U → Type 0)
    (sim : (s : S) (q : Request) (r : Response) (t : S) → T s q r t → T' (f s) q r (f t)) (s : S) (xs : List Exchange) (t : S) → Turns T s xs t → Turns T' (f s) xs (f t)
carried_turns f T T' sim s [] t e = ap f e
carried_turns f T T' sim s (x ∷ xs) t e = (f e.0, sim s x.request x.response e.0 e.1, carried_turns f T T' sim e.0 xs t e.2)

-- what each turn of the one kind is in the other
pub record Carries {S U : Type 0} (f : S → U) (T : S → Request → Response → S → Type 0) (T' : U → Request → Response → U → Type 0)
    (K : S → Request → Stop → S → Type 0) (K' : U → Request → Stop → U → Type 0) : Type 0 where
  pub turn : (s : S) (q : Request) (r : Response) (t : S) → T s q r t → T' (f s) q r (f t)
  pub stop : (s : S) (q : Request) (why : Stop) (t : S) → K s q why t → K' (f s) q why (f t)

module _ {S U : Type 0} (f : S → U) (T : S → Request → Response → S → Type 0) (T' : U → Request → Response → U → Type 0)
    (K : S → Request → Stop → S → Type 0) (K' : U → Request → Stop → U → Type 0) (sim : Carries f T T' K K') where
  carried_answer : (got : List ℕ) (xs : List Exchange) (border : End) (close : List ℕ) (s t : S) (sent : List ℕ)
      → Answered got xs border close s t sent → Answered got xs border close (f s) (f t) sent
  carried_answer got xs border close s t sent a = record { requests = a.requests; stays = ap f a.stays; sends = a.sends }

  carried_so_far : (got : List ℕ) (xs : List Exchange) (s t : S) (sent : List ℕ) → AnsweredSoFar got xs s t sent → AnsweredSoFar got xs (f s) (f t) sent
  carried_so_far got xs s t sent a = record { rest = a.rest; begins = a.begins; waits = a.waits; stays = ap f a.stays; sends = a.sends }

  carried_cut : (L : List ℕ → S → S → List ℕ → Type 0) (L' : List ℕ → U → U → List ℕ → Type 0)
      (last : (rest : List ℕ) (u t : S) (sent : List ℕ) → L rest u t sent → L' rest (f u) (f t) sent) (got : List ℕ) (xs : List Exchange) (s t : S) (sent : List ℕ)
      → CutOff L got xs s t sent → CutOff L' got xs (f s) (f t) sent
  carried_cut L L' last got xs s t sent a = record { rest = a.rest; begins = a.begins; last = last a.rest s t sent a.last }

  more : (rest : List ℕ) (u t : S) (sent : List ℕ) → OneMoreTurn T rest u t sent → OneMoreTurn T' rest (f u) (f t) sent
  more rest u t sent x = (x.0, x.1, x.2, x.3, x.4, sim.turn u x.0 x.2 t x.5, x.6)

  stopped : (why : Stop) (rest : List ℕ) (u t : S) (sent : List ℕ) → OneMoreStop K why rest u t sent → OneMoreStop K' why rest (f u) (f t) sent
  stopped why rest u t sent x = (x.0, x.1, x.2, sim.stop u x.0 why t x.3, x.4)

  closing : (rest : List ℕ) (u t : S) (sent : List ℕ) → PartOfClosing rest u t sent → PartOfClosing rest (f u) (f t) sent
  closing rest u t sent x = (x.0, x.1, x.2, ap f x.3, x.4)

  nothing : (rest : List ℕ) (u t : S) (sent : List ℕ) → NothingMore rest u t sent → NothingMore rest (f u) (f t) sent
  nothing rest u t sent x = (ap f x.0, x.1)

  carried_ending : (got : List ℕ) (xs : List Exchange) (s t : S) (sent : List ℕ) (how : SessionEnd) → IsEnding T K got xs s t sent how → IsEnding T' K' got xs (f s) (f t) sent how
  carried_ending got xs s t sent end.Closed x = carried_answer got xs _ _ s t sent x
  carried_ending got xs s t sent end.Truncated x = carried_answer got xs _ _ s t sent x
  carried_ending got xs s t sent (end.BadHead rule) x = carried_answer got xs _ _ s t sent x
  carried_ending got xs s t sent (end.TooLarge limit) x = carried_answer got xs _ _ s t sent x
  carried_ending got xs s t sent end.ReadFault x = carried_so_far got xs s t sent x
  carried_ending got xs s t sent end.BudgetEnd x = (carried_so_far got xs s t sent x.0, x.1)
  carried_ending got xs s t sent end.WriteFault x =
      elim x [
        | inl y ↦ inl (carried_cut (OneMoreTurn T) (OneMoreTurn T') more got xs s t sent y)
        | inr y ↦ inr (carried_cut PartOfClosing PartOfClosing closing got xs s t sent y)
      ]
  carried_ending got xs s t sent end.NoMemory x =
      elim x [
        | inl y ↦ inl (carried_cut NothingMore NothingMore nothing got xs s t sent y)
        | inr y ↦ inr (elim y [
          | inl z ↦ inl (carried_cut (OneMoreTurn T) (OneMoreTurn T') more got xs s t sent z)
          | inr z ↦ inr (carried_cut (OneMoreStop K stop.NoMemory) (OneMoreStop K' stop.NoMemory) (stopped stop.NoMemory) got xs s t sent z)
        ])
      ]
  carried_ending got xs s t sent end.Spent x = carried_cut (OneMoreStop K stop.Spent) (OneMoreStop K' stop.Spent) (stopped stop.Spent) got xs s t sent x

  -- and what is known of the exchanges is known as well in other words
  pub carried_session : (N N' : List Exchange → Type 0) → ((xs : List Exchange) → N xs → N' xs) → (l l' h h' : Option (List ℕ)) (s t : S) (how : SessionEnd)
      → Session T K N l l' h h' s t how → Session T' K' N' l l' h h' (f s) (f t) how
  carried_session N N' knows l l' h h' s t how x = record {
    got = x.got;
    exchanges = x.exchanges;
    now = f x.now;
    sent = x.sent;
    taken = x.taken;
    few = x.few;
    given = x.given;
    turns = carried_turns f T T' sim.turn s x.exchanges x.now x.turns;
    knows = knows x.exchanges x.knows;
    ending = carried_ending x.got x.exchanges x.now t x.sent how x.ending;
    whole = x.whole;
  }
