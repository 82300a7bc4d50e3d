-- The values that kept bodies are made of, besides those of answers.
use Rattle.std.specs.Prelude.{ℕ, ℤ, List, [], ◌∷◌, map, codes}
use Rattle.serde_json.specs.Data.{Data, number, string}
use Rattle.serde_json.specs.Find.{of_integer}
use Rattle.desk_base.specs.declared.rows.resources.Kind.{Kind}
use Rattle.desk_base.specs.declared.rows.resources.Kind.TheVariants.{Generic, Contact, User, Equipment, Account, Facility, Crew, Pool}
use Rattle.desk_time.specs.Limits.{IsMoment}
use Rattle.desk_time.specs.Dates.{date_text}
use Rattle.desk_json.specs.Values.{list_of, moment_data}

-- a whole number with a sign
abbrev pub signed_number : ℤ → Data
signed_number z = number (of_integer z)

-- a day is its date
abbrev pub day_data : ℕ → Data
day_data day = string (date_text day)

-- the name of a kind
abbrev pub kind_name : Kind → List ℕ
kind_name Generic = codes "generic"
kind_name Contact = codes "contact"
kind_name User = codes "user"
kind_name Equipment = codes "equipment"
kind_name Account = codes "account"
kind_name Facility = codes "facility"
kind_name Crew = codes "crew"
kind_name Pool = codes "pool"

-- a kind is its name
abbrev pub kind_data : Kind → Data
kind_data kind = string (kind_name kind)

-- two values
abbrev pub pair_data : Data → Data → Data
pair_data a b = list_of (a ∷ b ∷ [])

-- a shift from a moment of the horizon on
abbrev pub IsShift : ℕ × ℤ → Type 0
IsShift s = IsMoment s.0

-- a shift: the moment from which it holds, and by how many minutes clocks are ahead
abbrev pub shift_data : ℕ × ℤ → Data
shift_data s = pair_data (moment_data s.0) (signed_number s.1)

-- shifts, in order
abbrev pub shifts_data : List (ℕ × ℤ) → Data
shifts_data shifts = list_of (map shift_data shifts)
