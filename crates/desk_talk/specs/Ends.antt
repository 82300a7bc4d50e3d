-- How conversations end: the response that says why, and the ends that a good input may have.
use Rattle.std.specs.Prelude.{◌≡◌, ◌⊎◌, ℕ, List, true, false, None, codes}
use Rattle.desk_wire.specs.declared.rules.WireEnd.{WireEnd}
use Rattle.desk_wire.specs.declared.rules.WireEnd.TheVariants as why
use Rattle.desk_wire.specs.declared.rules.HeadRule.TheVariants as rule
use Rattle.desk_wire.specs.declared.rules.WireLimit.TheVariants as limit
use Rattle.desk_wire.specs.declared.responses.Response.{Response}
use Rattle.desk_wire.specs.declared.responses.BodyKind.TheVariants.{Json}
use Rattle.desk_talk.specs.declared.ends.SessionEnd.{SessionEnd}
use Rattle.desk_talk.specs.declared.ends.SessionEnd.TheVariants as end

-- the status of a rest that is refused
abbrev pub closing_status : WireEnd → ℕ
closing_status (why.Bad rule.Syntax) = 400
closing_status (why.Bad rule.Transfer) = 501
closing_status (why.Bad rule.Length) = 400
closing_status (why.TooLarge limit.Head) = 431
closing_status (why.TooLarge limit.Lines) = 431
closing_status (why.TooLarge limit.Body) = 413

-- the body that says which rule or limit it was
abbrev pub closing_text : WireEnd → List ℕ
closing_text (why.Bad rule.Syntax) = codes "{\"error\":\"bad_head\",\"rule\":\"syntax\"}"
closing_text (why.Bad rule.Transfer) = codes "{\"error\":\"bad_head\",\"rule\":\"transfer\"}"
closing_text (why.Bad rule.Length) = codes "{\"error\":\"bad_head\",\"rule\":\"length\"}"
closing_text (why.TooLarge limit.Head) = codes "{\"error\":\"too_large\",\"limit\":\"head\"}"
closing_text (why.TooLarge limit.Lines) = codes "{\"error\":\"too_large\",\"limit\":\"lines\"}"
closing_text (why.TooLarge limit.Body) = codes "{\"error\":\"too_large\",\"limit\":\"body\"}"

-- the response to a rest that is refused; the conversation closes behind it
abbrev pub closing : WireEnd → Response
closing end = record { status = closing_status end; kind = Json; allow = None; close = true; bare = false; body = closing_text end }

-- all is answered, or want of memory, or no turn could be drawn
abbrev pub EndsWell : SessionEnd → Type 0
EndsWell how = (how ≡ end.Closed) ⊎ (how ≡ end.NoMemory) ⊎ (how ≡ end.Spent)
