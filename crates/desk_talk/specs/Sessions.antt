-- What is known of a conversation that ended: the bytes that were taken, the exchanges, a turn for each, and the bytes that were sent.
use Rattle.std.specs.Prelude.{◌≡◌, ℕ, ◌<◌, ◌≤◌, ◌⊎◌, List, [], ◌∷◌, ◌++◌, length, map, Option, Some, None, IfSome}
use Rattle.std.specs.List.{flat_map}
use Rattle.std.specs.Io.KnownBytes.{Consumes, Appends}
use Rattle.desk_wire.specs.Requests.{Requests, End, clean, cut, bad, too_large, Begins, IsWhole, IsOpen}
use Rattle.desk_wire.specs.Framers.{IsRefused}
use Rattle.desk_wire.specs.Responses.{response_text}
use Rattle.desk_wire.specs.declared.rules.WireEnd.{WireEnd}
use Rattle.desk_wire.specs.declared.rules.WireEnd.TheVariants as why
use Rattle.desk_wire.specs.declared.rules.Request.{Request}
use Rattle.desk_wire.specs.declared.responses.Response.{Response}
use Rattle.desk_talk.specs.Ends.{closing}
use Rattle.desk_talk.specs.Hearing.{taken_limit, counted_limit}
use Rattle.desk_talk.specs.declared.ends.SessionEnd.{SessionEnd}
use Rattle.desk_talk.specs.declared.ends.SessionEnd.TheVariants as end
use Rattle.desk_talk.specs.declared.ends.Stop.{Stop}
use Rattle.desk_talk.specs.declared.ends.Stop.TheVariants as stop

-- a request and its response
pub record Exchange : Type 0 where
  pub request : Request
  pub response : Response

-- the requests, in order
abbrev pub requests_of : List Exchange → List Request
requests_of xs = map (λ (x : Exchange). x.request) xs

-- the bytes of the responses, in order
abbrev pub texts_of : List Exchange → List ℕ
texts_of xs = flat_map (λ (x : Exchange). response_text x.response) xs

-- each request has one turn, in order, which leads from one state to the next
abbrev pub Turns : {S : Type 0} (Turn : S → Request → Response → S → Type 0) → S → List Exchange → S → Type 0
Turns Turn s [] t = s ≡ t
Turns {S = S} Turn s (x ∷ xs) t = (u : S) × Turn s x.request x.response u × Turns Turn u xs t

-- the requests of the exchanges are all that the bytes have, the bytes end so, and behind the responses this was sent, which closes
pub record Answered {S : Type 0} (bytes : List ℕ) (exchanges : List Exchange) (end : End) (close : List ℕ) (now t : S) (sent : List ℕ) : Type 0 where
  pub requests : Requests bytes (requests_of exchanges) end
  pub stays : now ≡ t
  pub sends : sent ≡ close

-- the requests of the exchanges are all that are whole among the bytes, and nothing more was done or sent
pub record AnsweredSoFar {S : Type 0} (bytes : List ℕ) (exchanges : List Exchange) (now t : S) (sent : List ℕ) : Type 0 where
  pub rest : List ℕ
  pub begins : Begins bytes (requests_of exchanges) rest
  pub waits : IsOpen rest
  pub stays : now ≡ t
  pub sends : sent ≡ []

-- the requests of the exchanges are the first of the bytes, and of the rest this was done and sent
pub record CutOff {S : Type 0} (Last : List ℕ → S → S → List ℕ → Type 0) (bytes : List ℕ) (exchanges : List Exchange) (now t : S) (sent : List ℕ) : Type 0 where
  pub rest : List ℕ
  pub begins : Begins bytes (requests_of exchanges) rest
  pub last : Last rest now t sent

-- nothing more was done or sent
abbrev pub NothingMore : {S : Type 0} → List ℕ → S → S → List ℕ → Type 0
NothingMore rest u t sent = (u ≡ t) × (sent ≡ [])

-- one more turn was taken, and a front of its response sent
abbrev pub OneMoreTurn : {S : Type 0} (Turn : S → Request → Response → S → Type 0) → List ℕ → S → S → List ℕ → Type 0
OneMoreTurn Turn rest u t sent =
    (q : Request) × (after : List ℕ) × (r : Response) × (back : List ℕ)
    × IsWhole rest q after × Turn u q r t × (response_text r ≡ sent ++ back)

-- the rest is refused, and a front of the closing response was sent
abbrev pub PartOfClosing : {S : Type 0} → List ℕ → S → S → List ℕ → Type 0
PartOfClosing rest u t sent = (e : WireEnd) × (back : List ℕ) × IsRefused rest e × (u ≡ t) × (response_text (closing e) ≡ sent ++ back)

-- one more turn was begun, and there is no response to it
abbrev pub OneMoreStop : {S : Type 0} (Stops : S → Request → Stop → S → Type 0) → Stop → List ℕ → S → S → List ℕ → Type 0
OneMoreStop Stops why rest u t sent = (q : Request) × (after : List ℕ) × IsWhole rest q after × Stops u q why t × (sent ≡ [])

-- what was done and sent behind the exchanges, by how the conversation ended
abbrev pub IsEnding : {S : Type 0} (Turn : S → Request → Response → S → Type 0) (Stops : S → Request → Stop → S → Type 0)
    → List ℕ → List Exchange → S → S → List ℕ → SessionEnd → Type 0
IsEnding Turn Stops got xs now t sent end.Closed = Answered got xs clean [] now t sent
IsEnding Turn Stops got xs now t sent end.Truncated = Answered got xs cut [] now t sent
IsEnding Turn Stops got xs now t sent (end.BadHead rule) = Answered got xs (bad rule) (response_text (closing (why.Bad rule))) now t sent
IsEnding Turn Stops got xs now t sent (end.TooLarge limit) = Answered got xs (too_large limit) (response_text (closing (why.TooLarge limit))) now t sent
IsEnding Turn Stops got xs now t sent end.ReadFault = AnsweredSoFar got xs now t sent
IsEnding Turn Stops got xs now t sent end.BudgetEnd = AnsweredSoFar got xs now t sent × (taken_limit ≤ length got)
IsEnding Turn Stops got xs now t sent end.WriteFault = CutOff (OneMoreTurn Turn) got xs now t sent ⊎ CutOff PartOfClosing got xs now t sent
IsEnding Turn Stops got xs now t sent end.NoMemory =
    CutOff NothingMore got xs now t sent ⊎ CutOff (OneMoreTurn Turn) got xs now t sent ⊎ CutOff (OneMoreStop Stops stop.NoMemory) got xs now t sent
IsEnding Turn Stops got xs now t sent end.Spent = CutOff (OneMoreStop Stops stop.Spent) got xs now t sent

-- how the whole input ends, where the conversation came to its end
abbrev pub border_of : SessionEnd → Option End
border_of end.Closed = Some clean
border_of end.Truncated = Some cut
border_of (end.BadHead rule) = Some (bad rule)
border_of (end.TooLarge limit) = Some (too_large limit)
border_of _ = None

-- a conversation that ended: the bytes that were taken, the exchanges, whose texts are what was sent, their turns, and what is known of them all;
-- where the source tells its bytes, the exchanges are also all the requests of the whole input, if the conversation came to its end
pub record Session {S : Type 0} (Turn : S → Request → Response → S → Type 0) (Stops : S → Request → Stop → S → Type 0) (Knows : List Exchange → Type 0)
    (left left' held held' : Option (List ℕ)) (s t : S) (how : SessionEnd) : Type 0 where
  pub got : List ℕ
  pub exchanges : List Exchange
  pub now : S
  pub sent : List ℕ
  pub taken : Consumes left left' got
  pub few : length got < counted_limit
  pub given : Appends held held' (texts_of exchanges ++ sent)
  pub turns : Turns Turn s exchanges now
  pub knows : Knows exchanges
  pub ending : IsEnding Turn Stops got exchanges now t sent how
  pub whole : IfSome left (λ all. IfSome (border_of how) (λ border. Requests all (requests_of exchanges) border))
