-- The requests of the bytes of a connection, and how the bytes end. Nothing here speaks of pieces, so the requests are
-- the same however the bytes are cut.
use Rattle.std.specs.Prelude.{◌≡◌, ◌≢◌, ℕ, ◌<◌, ◌⊎◌, false, List, [], ◌∷◌, ◌++◌, length, MatchBool}
use Rattle.httparse.specs.Grammar.{RequestHead, print_request, ReadsRequest, HasNoRequest, NeverHasRequest, MayBecomeRequest}
use Rattle.desk_wire.specs.Limits.{most_head_bytes, most_head_lines}
use Rattle.desk_wire.specs.Front.{front, line_feeds}
use Rattle.desk_wire.specs.Framing.{framing, closes}
use Rattle.desk_wire.specs.declared.framing.Framing.TheVariants as framed
use Rattle.desk_wire.specs.declared.rules.HeadRule.{HeadRule}
use Rattle.desk_wire.specs.declared.rules.HeadRule.TheVariants.{Syntax}
use Rattle.desk_wire.specs.declared.rules.WireLimit.{WireLimit}
use Rattle.desk_wire.specs.declared.rules.WireLimit.TheVariants.{Head, Lines}
use Rattle.desk_wire.specs.declared.rules.Request.{Request}
use Rattle.desk_wire.specs.declared.rules.Next.{Next}
use Rattle.desk_wire.specs.declared.rules.Next.TheVariants as next

-- a head of the grammar stands whole in the front of the bytes, and these bytes stand behind it
abbrev pub HasHead : List ℕ → RequestHead → List ℕ → Type 0
HasHead bytes h after = ((more : List ℕ) × ReadsRequest (front bytes) h more) × (bytes ≡ print_request h ++ after)

-- the request that a head and its body are
abbrev pub request_of : RequestHead → List ℕ → Request
request_of h body = record { method = h.method; target = h.target; version = h.minor; close = closes h; body = body }

-- the bytes are a head, the body of the length that the head says, and this rest
pub record IsWhole (bytes : List ℕ) (q : Request) (rest : List ℕ) : Type 0 where
  pub head : RequestHead
  pub has_head : HasHead bytes head (q.body ++ rest)
  pub framed : framing head ≡ framed.Body (length q.body)
  pub is : q ≡ request_of head q.body

-- no head is there yet, more bytes may make one, and there is room for them
pub record IsHeadOpen (bytes : List ℕ) : Type 0 where
  pub none : HasNoRequest (front bytes)
  pub may : MayBecomeRequest (front bytes)
  pub lines : line_feeds (front bytes) < most_head_lines
  pub room : length (front bytes) < most_head_bytes

-- a head is there, and less than its body
pub record IsBodyOpen (bytes : List ℕ) : Type 0 where
  pub head : RequestHead
  pub after : List ℕ
  pub has_head : HasHead bytes head after
  pub size : ℕ
  pub framed : framing head ≡ framed.Body size
  pub short : length after < size

-- no whole request is there, and no rule is broken
abbrev pub IsOpen : List ℕ → Type 0
IsOpen bytes = IsHeadOpen bytes ⊎ IsBodyOpen bytes

-- no bytes can follow that make the front a head, or the head that is there is refused by this rule
abbrev pub IsBad : List ℕ → HeadRule → Type 0
IsBad bytes rule =
    ((rule ≡ Syntax) × NeverHasRequest (front bytes))
    ⊎ ((h : RequestHead) × (after : List ℕ) × HasHead bytes h after × (framing h ≡ framed.Bad rule))

-- more bytes might make a head, and the limit leaves no room for them; of two limits that are reached it is the lines'
pub record IsFull (bytes : List ℕ) (limit : WireLimit) : Type 0 where
  pub none : HasNoRequest (front bytes)
  pub may : MayBecomeRequest (front bytes)
  pub which : ((limit ≡ Lines) × (line_feeds (front bytes) ≡ most_head_lines))
      ⊎ ((limit ≡ Head) × (line_feeds (front bytes) < most_head_lines) × (length (front bytes) ≡ most_head_bytes))

-- the limit of a head is reached without one, or the head that is there says more than the limit
abbrev pub IsTooLarge : List ℕ → WireLimit → Type 0
IsTooLarge bytes limit =
    IsFull bytes limit
    ⊎ ((h : RequestHead) × (after : List ℕ) × HasHead bytes h after × (framing h ≡ framed.TooLarge limit))

-- how the bytes of a connection end: at a request's border, inside a request, by a broken rule or at a limit
pub data End : Type 0 where
  clean cut : End
  bad : HeadRule → End
  too_large : WireLimit → End

-- the bytes behind the last request end so
abbrev pub Ends : List ℕ → End → Type 0
Ends rest clean = rest ≡ []
Ends rest cut = (rest ≢ []) × IsOpen rest
Ends rest (bad rule) = IsBad rest rule
Ends rest (too_large limit) = IsTooLarge rest limit

-- the bytes are these requests and end so; behind a request that closes nothing is read
abbrev pub Requests : List ℕ → List Request → End → Type 0
Requests bytes [] end = Ends bytes end
Requests bytes (q ∷ qs) end =
    (rest : List ℕ) × IsWhole bytes q rest × MatchBool q.close ((qs ≡ []) × (end ≡ clean)) (Requests rest qs end)

-- what a look at the front of the bytes answers, and what it leaves of them
abbrev pub Frames : List ℕ → Next → List ℕ → Type 0
Frames old (next.Request q) new = IsWhole old q new
Frames old next.More new = IsOpen old × (new ≡ old)
Frames old (next.Bad rule) new = IsBad old rule × (new ≡ old)
Frames old (next.TooLarge limit) new = IsTooLarge old limit × (new ≡ old)

-- the bytes begin with these requests, of which none closes, and this is the rest
abbrev pub Begins : List ℕ → List Request → List ℕ → Type 0
Begins bytes [] rest = bytes ≡ rest
Begins bytes (q ∷ qs) rest = (mid : List ℕ) × IsWhole bytes q mid × (q.close ≡ false) × Begins mid qs rest
