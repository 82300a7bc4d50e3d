-- What a request and its response have to do with a turn.
use Rattle.std.specs.Prelude.{◌≡◌, ◌⊎◌, ⊤, Option, Some, None, Result, Ok, Err}
use Rattle.desk_base.specs.declared.asked.answers.Command.{Command as Asked}
use Rattle.desk_base.specs.declared.asked.answers.Command.TheVariants.{Change, Ask}
use Rattle.desk_base.specs.declared.asked.answers.Answer.{Answer}
use Rattle.desk_wire.specs.declared.rules.Request.{Request}
use Rattle.desk_wire.specs.declared.responses.Response.{Response}
use Rattle.desk_route.specs.declared.requests.Routed.{Routed}
use Rattle.desk_route.specs.declared.requests.Routed.TheVariants.{Command, Refused}
use Rattle.desk_talk.specs.declared.ends.Stop.{Stop}
use Rattle.desk_talk.specs.declared.ends.Stop.TheVariants as stop
use Rattle.desk_json.specs.Asked.{IsAsked}
use Rattle.desk_json.specs.AnsweredPages.{ShowsPlaces}
use Rattle.desk_route.specs.Requesting.{Reads}
use Rattle.desk_route.specs.Replies.{answer_response, refusal_response}

-- a command that a request can ask for: a question, or a change that a body can ask for
abbrev pub IsRequested : Asked → Type 0
IsRequested (Change call act) = IsAsked (Change call act)
IsRequested (Ask query) = ⊤

-- a command has one turn, whose answer is the response, with places that could be written; a refusal is the response, and has no turn
abbrev pub TurnOf : {S : Type 0} (Turn : S → Asked → Answer → S → Type 0) → Routed → S → Request → Response → S → Type 0
TurnOf Turn (Refused why) s q r t = (r ≡ refusal_response q why) × (t ≡ s)
TurnOf Turn (Command command) s q r t = (a : Answer) × Turn s command a t × (r ≡ answer_response q a) × ShowsPlaces a.outcome

-- the request is read, and its response given
abbrev pub Exchanged : {S : Type 0} (Turn : S → Asked → Answer → S → Type 0) → S → Request → Response → S → Type 0
Exchanged Turn s q r t = (routed : Routed) × Reads q routed × TurnOf Turn routed s q r t

-- an answer is the response, or there is none, for want of memory or where no turn could be drawn
abbrev pub IsResponse : Request → Option Answer → Result Response Stop → Type 0
IsResponse q (Some a) (Ok r) = (r ≡ answer_response q a) × ShowsPlaces a.outcome
IsResponse q (Some a) (Err why) = why ≡ stop.NoMemory
IsResponse q None (Ok r) = ⊥
IsResponse q None (Err why) = why ≡ stop.Spent

-- a request that has no response: for want of memory nothing was done or one turn was taken, and where no turn can be drawn none was
abbrev pub IsStopped : {S : Type 0} (Turn : S → Asked → Answer → S → Type 0) (Spent : S → S → Type 0) → S → Request → Stop → S → Type 0
IsStopped Turn Spent s q stop.NoMemory t = (t ≡ s) ⊎ ((command : Asked) × (a : Answer) × Reads q (Command command) × Turn s command a t)
IsStopped Turn Spent s q stop.Spent t = (command : Asked) × Reads q (Command command) × Spent s t
