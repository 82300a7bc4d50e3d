-- What the fields of a head say of the bytes behind it. A field is its name and its value as `name_and_value` of `httparse` gives
-- them: the spaces and tabs at both ends of the value are dropped there.
use Rattle.std.specs.Prelude.{ℕ, Bool, not, ◌&&◌, ◌||◌, ◌==◌, nat_lt, nat_le, List, [], ◌∷◌, length, map, filter, codes, bytes_eq, if◌then◌else◌}
use Rattle.std.specs.List.{list_any, list_all}
use Rattle.std.specs.Char.{to_ascii_lowercase, is_ascii_digit}
use Rattle.std.specs.Str.Parse.{digits_value}
use Rattle.httparse.specs.Grammar.{RequestHead}
use Rattle.httparse.specs.Spans.{name_and_value}
use Rattle.desk_wire.specs.Limits.{most_body_bytes}
use Rattle.desk_wire.specs.declared.framing.Framing.{Framing}
use Rattle.desk_wire.specs.declared.framing.Framing.TheVariants as framed
use Rattle.desk_wire.specs.declared.rules.HeadRule.TheVariants.{Transfer, Length}
use Rattle.desk_wire.specs.declared.rules.WireLimit.TheVariants as limit

-- the field has this name, whatever the case of its letters
abbrev pub is_named : List ℕ → List ℕ × List ℕ → Bool
is_named name field = bytes_eq (map to_ascii_lowercase field.0) (map to_ascii_lowercase name)

-- the field says how the body is sent
abbrev pub is_transfer : List ℕ × List ℕ → Bool
is_transfer field = is_named (codes "transfer-encoding") field

-- the values of the fields that say how long the body is
abbrev pub lengths : List (List ℕ × List ℕ) → List (List ℕ)
lengths fields = map (λ field. field.1) (filter (is_named (codes "content-length")) fields)

-- the text is one digit or more, and nothing else
abbrev pub is_number : List ℕ → Bool
is_number text = nat_lt 0 (length text) && list_all is_ascii_digit text

-- a body of so many bytes, where that is within the limit
abbrev pub sized : ℕ → Framing
sized size = if nat_le size most_body_bytes then framed.Body size else framed.TooLarge limit.Body

-- the value says how many bytes the body has, by the number that its digits write
abbrev pub framing_by_value : List ℕ → Framing
framing_by_value value = if is_number value then sized (digits_value 10 value) else framed.Bad Length

-- without a length there is no body, and a second length is refused, whatever it says
abbrev pub framing_by_lengths : List (List ℕ) → Framing
framing_by_lengths [] = framed.Body 0
framing_by_lengths (value ∷ []) = framing_by_value value
framing_by_lengths (value ∷ other ∷ values) = framed.Bad Length

-- a head with a field of transfer is refused, and any other says it by its lengths
unfoldable pub framing_by : List (List ℕ × List ℕ) → Framing
framing_by fields = if list_any is_transfer fields then framed.Bad Transfer else framing_by_lengths (lengths fields)

-- how many bytes are the head's body, or why the head is refused
abbrev pub framing : RequestHead → Framing
framing h = framing_by (map name_and_value h.fields)

-- the field says that the connection closes, whatever the case of its letters: its whole value is the word, and no list is split
abbrev pub is_close : List ℕ × List ℕ → Bool
is_close field = is_named (codes "connection") field && bytes_eq (map to_ascii_lowercase field.1) (map to_ascii_lowercase (codes "close"))

-- a head of version 1.0 closes, and one with a field that says so
unfoldable pub closes_by : ℕ → List (List ℕ × List ℕ) → Bool
closes_by minor fields = minor == 0 || list_any is_close fields

-- the conversation ends with the response to the head's request
abbrev pub closes : RequestHead → Bool
closes h = closes_by h.minor (map name_and_value h.fields)
