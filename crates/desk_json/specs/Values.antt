-- The values that answers are made of.
use Rattle.std.specs.Prelude.{ℕ, List, [], ◌∷◌, Option, Some, None}
use Rattle.serde_json.specs.Data.{Data, null, number, unsigned, string, array}
use Rattle.serde_json.specs.View.{items_of}
use Rattle.desk_base.specs.declared.rows.tables.Key.{Key}
use Rattle.desk_time.specs.Moments.{moment_text}

-- a whole number
abbrev pub whole_number : ℕ → Data
whole_number n = number (unsigned n)

-- a list of values
abbrev pub list_of : List Data → Data
list_of ds = array (items_of ds)

-- the three numbers of a key
abbrev pub key_data : Key → Data
key_data key = list_of (whole_number key.a ∷ whole_number key.b ∷ whole_number key.c ∷ [])

-- a number, or null where there is none
abbrev pub number_or_null : Option ℕ → Data
number_or_null (Some n) = whole_number n
number_or_null None = null

-- a moment is its text
abbrev pub moment_data : ℕ → Data
moment_data minute = string (moment_text minute)
