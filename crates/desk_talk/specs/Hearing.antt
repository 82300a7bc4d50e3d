-- What was heard on a connection.
use Rattle.std.specs.Prelude.{◌≡◌, ℕ, ◌+◌, ◌<◌, ◌≤◌, ◌^◌, List, [], ◌++◌, length, Option, None, ⊤}
use Rattle.std.specs.Io.KnownBytes.{Consumes, IsAtEnd}
use Rattle.desk_wire.specs.Requests.{IsWhole, IsOpen}
use Rattle.desk_wire.specs.Framers.{IsRefused}
use Rattle.desk_wire.specs.Fed.{Fed}
use Rattle.desk_wire.specs.declared.rules.Request.{Request}
use Rattle.desk_talk.specs.declared.hearing.Pulled.{Pulled}
use Rattle.desk_talk.specs.declared.hearing.Pulled.TheVariants as pulled
use Rattle.desk_talk.specs.declared.hearing.Heard.{Heard}
use Rattle.desk_talk.specs.declared.hearing.Heard.TheVariants as heard

-- after how many bytes no more are taken on a connection
abbrev pub taken_limit : ℕ
taken_limit = 2 ^ 32

-- the most bytes of one call of the source
abbrev pub piece_limit : ℕ
piece_limit = 4096

-- below how many bytes all that are taken stay: the last call may pass the limit
abbrev pub counted_limit : ℕ
counted_limit = taken_limit + piece_limit

-- the bytes begin with a whole request
abbrev pub BeginsWhole : List ℕ → Type 0
BeginsWhole bytes = (q : Request) × (rest : List ℕ) × IsWhole bytes q rest

-- what stands in the stream, and what is left of it
abbrev pub IsHeard : List ℕ → Heard → Fed → Type 0
IsHeard stream (heard.Request q) new = IsWhole stream q new.rest × (new.ended ≡ None)
IsHeard stream (heard.Refused end) new = IsRefused stream end
IsHeard stream heard.AtEnd new = IsOpen stream × (new.rest ≡ stream)
IsHeard stream heard.Fault new = IsOpen stream
IsHeard stream heard.Budget new = IsOpen stream
IsHeard stream heard.NoMemory new = ⊤

-- more bytes were taken, and this was heard of the stream
pub record Hears (old new : Option (List ℕ)) (before after : ℕ) (fed now : Fed) (d : Heard) : Type 0 where
  pub more : List ℕ
  pub taken : Consumes old new more
  pub count : after ≡ before + length more
  pub heard : IsHeard (fed.rest ++ more) d now

-- what one call of the source brought
abbrev pub IsPulled : Pulled → Option (List ℕ) → Option (List ℕ) → Fed → Fed → Type 0
IsPulled (pulled.Bytes n) old new fed now = (0 < n) × (n ≤ piece_limit) × ((more : List ℕ) × Consumes old new more × (length more ≡ n) × (now.rest ≡ fed.rest ++ more) × (now.ended ≡ fed.ended))
IsPulled pulled.AtEnd old new fed now = Consumes old new [] × IsAtEnd new × (now ≡ fed)
IsPulled pulled.Fault old new fed now = Consumes old new [] × (now ≡ fed)
IsPulled (pulled.NoMemory n) old new fed now = (n ≤ piece_limit) × ((more : List ℕ) × Consumes old new more × (length more ≡ n)) × (now ≡ fed)
