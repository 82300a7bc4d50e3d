-- Turns of one state, as turns of another.
use Rattle.std.proofs.Common.{inl, inr, ap}
use Rattle.desk_base.specs.declared.asked.answers.Command.{Command as Asked}
use Rattle.desk_base.specs.declared.asked.answers.Answer.{Answer}
use Rattle.desk_wire.specs.declared.rules.Request.{Request}
use Rattle.desk_wire.specs.declared.responses.Response.{Response}
use Rattle.desk_route.specs.declared.requests.Routed.{Routed}
use Rattle.desk_route.specs.declared.requests.Routed.TheVariants.{Command, Refused}
use Rattle.desk_talk.specs.declared.ends.Stop.{Stop}
use Rattle.desk_talk.specs.declared.ends.Stop.TheVariants as stop
use Rattle.desk_route.specs.Exchanges.{TurnOf, IsStopped}

-- f carries each turn over commands to one of the other kind, so each exchange too
pub turn_of : {S U : Type 0} (f : S → U) (T : S → Asked → Answer → S → Type 0) (T' : U → Asked → Answer → U → Type 0)
    (sim : (s : S) (c : Asked) (a : Answer) (t : S) → T s c a t → T' (f s) c a (f t)) (o : Routed) (s : S) (q : Request) (r : Response) (t : S)
    → TurnOf T o s q r t → TurnOf T' o (f s) q r (f t)
turn_of f T T' sim (Refused why) s q r t x = (x.0, ap f x.1)
turn_of f T T' sim (Command command) s q r t x = (x.0, sim s command x.0 t x.1, x.2, x.3)

-- and each stop
pub stop_of : {S U : Type 0} (f : S → U) (T : S → Asked → Answer → S → Type 0) (T' : U → Asked → Answer → U → Type 0)
    (K : S → S → Type 0) (K' : U → U → Type 0) (sim : (s : S) (c : Asked) (a : Answer) (t : S) → T s c a t → T' (f s) c a (f t)) (spent : (s t : S) → K s t → K' (f s) (f t))
    (s : S) (q : Request) (why : Stop) (t : S) → IsStopped T K s q why t → IsStopped T' K' (f s) q why (f t)
stop_of f T T' K K' sim spent s q stop.NoMemory t (inl e) = inl (ap f e)
stop_of f T T' K K' sim spent s q stop.NoMemory t (inr x) = inr (x.0, x.1, x.2, sim s x.0 x.1 t x.3)
stop_of f T T' K K' sim spent s q stop.Spent t x = (x.0, x.1, spent s t x.2)
