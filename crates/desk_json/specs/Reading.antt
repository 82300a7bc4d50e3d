-- What the values of a body are read as.
use Rattle.std.specs.Prelude.{ℕ, ℤ, pos, neg_ℤ, int_le, ◌&&◌, nat_le, List, [], ◌∷◌, bytes_eq, codes, Option, Some, None, Result, Ok, is_some, if◌then◌else◌}
use Rattle.serde_json.specs.Data.{Data, Num, unsigned, negative, float}
use Rattle.serde_json.specs.Find.{as_null, as_number, as_str}
use Rattle.desk_base.specs.rules.Limits.{id_limit, serial_limit}
use Rattle.desk_base.specs.declared.asked.rules.Field.{Field}
use Rattle.desk_base.specs.declared.rows.resources.Kind.{Kind}
use Rattle.desk_base.specs.declared.rows.resources.Kind.TheVariants as kind
use Rattle.desk_json.specs.declared.faults.BodyError.{BodyError}
use Rattle.desk_json.specs.declared.faults.BodyRule.TheVariants.{Sort, Range, Moment}
use Rattle.desk_json.specs.Faults.{fault, ◌>>=◌}
use Rattle.desk_json.specs.MomentReading.{moment_of, day_of}

-- ---- whole numbers

-- the greatest numbers of 8, 16, 32 and 64 bits
abbrev pub greatest_u8 : ℕ
greatest_u8 = 255

abbrev pub greatest_u16 : ℕ
greatest_u16 = 65535

abbrev pub greatest_u32 : ℕ
greatest_u32 = 4294967295

abbrev pub greatest_u64 : ℕ
greatest_u64 = 18446744073709551615

-- a whole number up to the greatest of its type
abbrev pub whole_of : ℕ → Field → Option Num → Result ℕ BodyError
whole_of greatest field (Some (unsigned n)) = if nat_le n greatest then Ok n else fault Range field
whole_of greatest field (Some (negative z)) = fault Range field
whole_of greatest field (Some (float x)) = fault Sort field
whole_of greatest field None = fault Sort field

-- the same of a value
unfoldable pub whole_in : ℕ → Field → Data → Result ℕ BodyError
whole_in greatest field d = whole_of greatest field (as_number d)

-- a whole number that 32 bits with a sign hold
abbrev pub within_i32 : Field → ℤ → Result ℤ BodyError
within_i32 field z = if int_le (neg_ℤ (pos 2147483648)) z && int_le z (pos 2147483647) then Ok z else fault Range field

-- a whole number with a sign
abbrev pub signed_of : Field → Option Num → Result ℤ BodyError
signed_of field (Some (unsigned n)) = within_i32 field (pos n)
signed_of field (Some (negative z)) = within_i32 field z
signed_of field (Some (float x)) = fault Sort field
signed_of field None = fault Sort field

-- the same of a value
unfoldable pub i32_in : Field → Data → Result ℤ BodyError
i32_in field d = signed_of field (as_number d)

-- a number from 1 up to a limit
abbrev pub from_one : ℕ → Field → ℕ → Result ℕ BodyError
from_one limit field n = if nat_le 1 n && nat_le n limit then Ok n else fault Range field

-- a number of 32 bits
abbrev pub u32_in : Field → Data → Result ℕ BodyError
u32_in field d = whole_in greatest_u32 field d

-- an id
unfoldable pub id_in : Field → Data → Result ℕ BodyError
id_in field d = u32_in field d >>= from_one id_limit field

-- a caller's number of its change
unfoldable pub serial_in : Field → Data → Result ℕ BodyError
serial_in field d = u32_in field d >>= from_one serial_limit field

-- an id, or none for null
unfoldable pub id_or_null_in : Field → Data → Result (Option ℕ) BodyError
id_or_null_in field d = if is_some (as_null d) then Ok None else (id_in field d >>= λ id. Ok (Some id))

-- ---- texts

-- a text
abbrev pub text_of : Field → Option (List ℕ) → Result (List ℕ) BodyError
text_of field (Some text) = Ok text
text_of field None = fault Sort field

-- the same of a value, which is a name as it stands
unfoldable pub text_in : Field → Data → Result (List ℕ) BodyError
text_in field d = text_of field (as_str d)

-- what was found under a name, or the name is none of the list
abbrev pub or_fault : {X : Type 0} → Result X BodyError → Option X → Result X BodyError
or_fault otherwise (Some x) = Ok x
or_fault otherwise None = otherwise

-- the moment that a text is
unfoldable pub moment_in : Field → Data → Result ℕ BodyError
moment_in field d = text_in field d >>= λ text. or_fault (fault Moment field) (moment_of text)

-- the day that a text is
unfoldable pub day_in : Field → Data → Result ℕ BodyError
day_in field d = text_in field d >>= λ text. or_fault (fault Moment field) (day_of text)

-- what has this name in a table of names
abbrev pub named : {X : Type 0} → List (List ℕ × X) → List ℕ → Option X
named [] text = None
named (entry ∷ entries) text = if bytes_eq text entry.0 then Some entry.1 else named entries text

-- the names of the kinds
abbrev pub kinds : List (List ℕ × Kind)
kinds =
    (codes "generic", kind.Generic) ∷ (codes "contact", kind.Contact) ∷ (codes "user", kind.User) ∷ (codes "equipment", kind.Equipment)
    ∷ (codes "account", kind.Account) ∷ (codes "facility", kind.Facility) ∷ (codes "crew", kind.Crew) ∷ (codes "pool", kind.Pool) ∷ []

-- the kind of a name
unfoldable pub kind_named : List ℕ → Option Kind
kind_named text = named kinds text

-- a kind is its name in small letters
unfoldable pub kind_in : Field → Data → Result Kind BodyError
kind_in field d = text_in field d >>= λ text. or_fault (fault Range field) (kind_named text)
