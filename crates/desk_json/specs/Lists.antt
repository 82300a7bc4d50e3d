-- What the lists of a body are read as.
use Rattle.std.specs.Prelude.{ℕ, ℤ, List, [], ◌∷◌, Option, Some, None, Result, Ok}
use Rattle.serde_json.specs.Data.{Data, Items, no_items, item}
use Rattle.serde_json.specs.Find.{as_array, at as item_at}
use Rattle.desk_base.specs.declared.asked.rules.Field.{Field}
use Rattle.desk_base.specs.declared.values.minutes.Window.{Window}
use Rattle.desk_json.specs.declared.faults.BodyError.{BodyError}
use Rattle.desk_json.specs.declared.faults.BodyRule.TheVariants.{Sort}
use Rattle.desk_json.specs.Faults.{fault, ◌>>=◌}
use Rattle.desk_json.specs.Reading.{greatest_u8, whole_in, i32_in, id_in, moment_in}

-- what each item is read as, or the fault of the first that has one
abbrev pub each_in : {X : Type 0} → (Data → Result X BodyError) → Items → Result (List X) BodyError
each_in read no_items = Ok []
each_in read (item d ds) = read d >>= λ x. each_in read ds >>= λ xs. Ok (x ∷ xs)

-- the items of a list
abbrev pub items_in : Field → Option Items → Result Items BodyError
items_in field (Some items) = Ok items
items_in field None = fault Sort field

-- a list of values that are read one like the other
unfoldable pub list_in : {X : Type 0} → (Field → Data → Result X BodyError) → Field → Data → Result (List X) BodyError
list_in read field d = items_in field (as_array d) >>= each_in (read field)

-- a list of two values: its own fault comes before theirs
abbrev pub pair_of : {X Y : Type 0} → (Field → Data → Result X BodyError) → (Field → Data → Result Y BodyError) → Field → Option Data → Option Data → Option Data → Result (X × Y) BodyError
pair_of first second field (Some a) (Some b) None = first field a >>= λ x. second field b >>= λ y. Ok (x, y)
pair_of first second field _ _ _ = fault Sort field

-- the same of a value
unfoldable pub pair_in : {X Y : Type 0} → (Field → Data → Result X BodyError) → (Field → Data → Result Y BodyError) → Field → Data → Result (X × Y) BodyError
pair_in first second field d = pair_of first second field (item_at 0 d) (item_at 1 d) (item_at 2 d)

-- a shift: the moment from which it holds, and by how many minutes clocks are ahead
abbrev pub shift_in : Field → Data → Result (ℕ × ℤ) BodyError
shift_in = pair_in moment_in i32_in

-- a characteristic, and the least rating that serves
abbrev pub rating_in : Field → Data → Result (ℕ × ℕ) BodyError
rating_in = pair_in id_in (whole_in greatest_u8)

-- a window: the moments at which it begins and ends
abbrev pub window_in : Field → Data → Result Window BodyError
window_in field d = pair_in moment_in moment_in field d >>= λ w. Ok (record { from = w.0; to = w.1 })
