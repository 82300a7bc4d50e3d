-- What the steps of one look at the front say. Nothing of it is seen above this crate.
use Rattle.std.specs.Prelude.{◌≡◌, ℕ, ◌≤◌, List, length, take, drop, ⊤, Option, IfSome}
use Rattle.httparse.specs.Grammar.{RequestHead}
use Rattle.httparse.specs.Spans.{span_bytes, IsWithin}
use Rattle.httparse.specs.declared.spans.RequestSpans.{RequestSpans}
use Rattle.desk_wire.specs.Framing.{framing, closes}
use Rattle.desk_wire.specs.Requests.{HasHead, IsHeadOpen, Frames}
use Rattle.desk_wire.specs.Framers.{IsRefused}
use Rattle.desk_wire.specs.declared.framing.Framing.TheVariants as framed
use Rattle.desk_wire.specs.declared.looking.FrontLook.{FrontLook}
use Rattle.desk_wire.specs.declared.looking.FrontLook.TheVariants as look
use Rattle.desk_wire.specs.declared.reading.Found.{Found}
use Rattle.desk_wire.specs.declared.reading.FrontStep.{FrontStep}
use Rattle.desk_wire.specs.declared.reading.FrontRead.{FrontRead}
use Rattle.desk_wire.specs.declared.reading.FrontRead.TheVariants as reading

-- of a head's spans, where the look found one
abbrev pub IfHead : FrontLook → (RequestSpans → Type 0) → Type 0
IfHead (look.Head spans) P = P spans
IfHead look.Bad P = ⊤
IfHead look.Open P = ⊤

-- where the look found no head and none can come
abbrev pub OnBad : FrontLook → Type 0 → Type 0
OnBad (look.Head spans) P = ⊤
OnBad look.Bad P = P
OnBad look.Open P = ⊤

-- where the look found no head and one may come
abbrev pub OnOpen : FrontLook → Type 0 → Type 0
OnOpen (look.Head spans) P = ⊤
OnOpen look.Bad P = ⊤
OnOpen look.Open P = P

-- a head was found, which these spans cover and which says how long its body is
pub record IsFound (bytes : List ℕ) (f : Found) : Type 0 where
  pub head : RequestHead
  pub has_head : HasHead bytes head (drop f.spans.len bytes)
  pub framed : framing head ≡ framed.Body f.body
  pub front : f.front ≤ length bytes
  pub len : f.spans.len ≤ length bytes
  pub method : span_bytes (take f.front bytes) f.spans.method ≡ head.method
  pub target : span_bytes (take f.front bytes) f.spans.path ≡ head.target
  pub version : f.spans.version ≡ head.minor
  pub closes : f.close ≡ closes head
  pub method_within : IsWithin f.front f.spans.method
  pub target_within : IsWithin f.front f.spans.path

-- what stands at the front of the bytes
abbrev pub IsRead : List ℕ → FrontRead → Type 0
IsRead bytes (reading.Head f) = IsFound bytes f
IsRead bytes reading.Open = IsHeadOpen bytes
IsRead bytes (reading.Refused end) = IsRefused bytes end

-- what is kept of a head that was found, where one was
abbrev pub IsKept : List ℕ → Option Found → Type 0
IsKept bytes kept = IfSome kept (IsFound bytes)

-- what a step at the front answers and takes off, and what it keeps of the head that is left there
pub record IsFrontStep (bytes : List ℕ) (s : FrontStep) : Type 0 where
  pub within : s.taken ≤ length bytes
  pub frames : Frames bytes s.next (drop s.taken bytes)
  pub kept : IsKept (drop s.taken bytes) s.kept
