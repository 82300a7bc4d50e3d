-- A turn with its response is an exchange, and one without has a reason.
use Rattle.std.proofs.Common.{Option, Some, None, Result, Ok, Err, IfOk, IfErr, IfSome, IfNone, inr, sym, subst}
use Rattle.desk_base.specs.declared.asked.answers.Answer.{Answer}
use Rattle.desk_base.specs.declared.asked.answers.Command.{Command as Asked}
use Rattle.desk_wire.specs.declared.rules.Request.{Request}
use Rattle.desk_wire.specs.declared.responses.Response.{Response}
use Rattle.desk_talk.specs.declared.ends.Stop.{Stop}
use Rattle.desk_route.specs.declared.requests.Routed.TheVariants.{Command}
use Rattle.desk_route.specs.Exchanges.{Exchanged, IsResponse, IsStopped}
use Rattle.desk_route.specs.Requesting.{Reads}

module _ {S : Type 0} (Turn : S → Asked → Answer → S → Type 0) (Spent : S → S → Type 0) (s t : S) (q : Request) (c : Asked) (reads : Reads q (Command c)) where
  pub exchanged_by : (o : Option Answer) (r : Result Response Stop) → IfSome o (λ a. Turn s c a t) → IsResponse q o r → IfOk r (λ response. Exchanged Turn s q response t)
  exchanged_by (Some a) (Ok r) turn e = (Command c, reads, (a, turn, e.0, e.1))
  exchanged_by (Some a) (Err why) turn e = tt
  exchanged_by None (Ok r) turn e = absurd e
  exchanged_by None (Err why) turn e = tt

  pub stopped_by : (o : Option Answer) (r : Result Response Stop) → IfSome o (λ a. Turn s c a t) → IfNone o (Spent s t) → IsResponse q o r → IfErr r (λ why. IsStopped Turn Spent s q why t)
  stopped_by (Some a) (Ok r) turn spent e = tt
  stopped_by (Some a) (Err why) turn spent e = subst (λ w. IsStopped Turn Spent s q w t) (sym e) (inr (c, a, reads, turn))
  stopped_by None (Ok r) turn spent e = absurd e
  stopped_by None (Err why) turn spent e = subst (λ w. IsStopped Turn Spent s q w t) (sym e) (c, reads, spent)
