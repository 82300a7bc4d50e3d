-- What one round of a conversation does.
use Rattle.std.specs.Prelude.{◌≡◌, ℕ, Bool, if◌then◌else◌, List, [], Option, Some, None, ⊤}
use Rattle.std.specs.Io.KnownBytes.{Appends}
use Rattle.desk_io.specs.Moves.{AppendsFront}
use Rattle.desk_wire.specs.Responses.{response_text}
use Rattle.desk_wire.specs.declared.rules.Request.{Request}
use Rattle.desk_wire.specs.declared.responses.Response.{Response}
use Rattle.desk_wire.specs.declared.rules.WireEnd.{WireEnd}
use Rattle.desk_wire.specs.declared.rules.WireEnd.TheVariants as why
use Rattle.desk_talk.specs.Ends.{closing}
use Rattle.desk_talk.specs.declared.hearing.Heard.{Heard}
use Rattle.desk_talk.specs.declared.hearing.Heard.TheVariants as heard
use Rattle.desk_talk.specs.declared.ends.SessionEnd.{SessionEnd}
use Rattle.desk_talk.specs.declared.ends.SessionEnd.TheVariants as end
use Rattle.desk_talk.specs.declared.ends.Stop.{Stop}
use Rattle.desk_talk.specs.declared.ends.Stop.TheVariants as stop
use Rattle.desk_talk.specs.declared.rounds.Sent.{Sent}
use Rattle.desk_talk.specs.declared.rounds.Sent.TheVariants as sent
use Rattle.desk_talk.specs.declared.rounds.Replied.{Replied}
use Rattle.desk_talk.specs.declared.rounds.Replied.TheVariants as replied

-- what the sink took of a response
abbrev pub IsSent : Sent → Option (List ℕ) → Option (List ℕ) → Response → Type 0
IsSent sent.Whole old new r = Appends old new (response_text r)
IsSent sent.Fault old new r = AppendsFront old new (response_text r)
IsSent sent.NoMemory old new r = Appends old new []

-- a turn was taken and its response sent so far, or it has none
abbrev pub IsReplied : {S : Type 0} (Turn : S → Request → Response → S → Type 0) (Stops : S → Request → Stop → S → Type 0)
    → S → Request → Replied → S → Option (List ℕ) → Option (List ℕ) → Type 0
IsReplied Turn Stops s q (replied.Sent sent) t old new = (r : Response) × Turn s q r t × IsSent sent old new r
IsReplied Turn Stops s q (replied.Stopped stop) t old new = Stops s q stop t × Appends old new []

-- the end of a conversation whose rest is refused
abbrev pub refused_as : WireEnd → SessionEnd
refused_as (why.Bad rule) = end.BadHead rule
refused_as (why.TooLarge limit) = end.TooLarge limit

-- how it ends where the rest is refused
abbrev pub end_after : WireEnd → Sent → SessionEnd
end_after e sent.Whole = refused_as e
end_after e sent.Fault = end.WriteFault
end_after e sent.NoMemory = end.NoMemory

-- how the conversation ends after what was heard, and what the last response's bytes did to the sink
abbrev pub IsFinished : Heard → Bool → SessionEnd → Option (List ℕ) → Option (List ℕ) → Type 0
IsFinished (heard.Request q) empty how old new = ⊤
IsFinished (heard.Refused e) empty how old new = (sent : Sent) × (how ≡ end_after e sent) × IsSent sent old new (closing e)
IsFinished heard.AtEnd empty how old new = (how ≡ (if empty then end.Closed else end.Truncated)) × Appends old new []
IsFinished heard.Fault empty how old new = (how ≡ end.ReadFault) × Appends old new []
IsFinished heard.Budget empty how old new = (how ≡ end.BudgetEnd) × Appends old new []
IsFinished heard.NoMemory empty how old new = (how ≡ end.NoMemory) × Appends old new []

-- how the conversation ends with this turn, if it does
abbrev pub end_of_turn : Replied → Bool → Option SessionEnd
end_of_turn (replied.Sent sent.Whole) close = if close then Some end.Closed else None
end_of_turn (replied.Sent sent.Fault) close = Some end.WriteFault
end_of_turn (replied.Sent sent.NoMemory) close = Some end.NoMemory
end_of_turn (replied.Stopped stop.NoMemory) close = Some end.NoMemory
end_of_turn (replied.Stopped stop.Spent) close = Some end.Spent
