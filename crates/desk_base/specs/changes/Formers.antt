-- Puts that are taken back: what stood under the key of each row that was put, and the tables with it again.
use Rattle.std.specs.Prelude.{ℕ, ◌≡◌, ◌≤◌, true, List, [], ◌∷◌, find, Vec, vec_len, vec_capacity, ⊤}
use Rattle.std.specs.Option.{option_map_or}
use Rattle.std.specs.declared.alloc.Global.{Global}
use Rattle.desk_base.specs.rows.Types.{Tables, Key, AnyRow}
use Rattle.desk_base.specs.declared.changes.formers.Former.{Former}
use Rattle.desk_base.specs.declared.changes.formers.Former.TheVariants.{Row, Nothing}
use Rattle.desk_base.specs.rows.Rows.{key_of, rows_in}
use Rattle.desk_base.specs.asked.Refusing.{is_key, is_there}
use Rattle.desk_base.specs.changes.Changes.{with_row, without_key}

-- what stands under a key among these rows
abbrev pub former_in : Key → List AnyRow → Former
former_in k rows = option_map_or Row (find (λ row. is_key k (key_of row)) rows) (Nothing k)

-- what stands under a key
abbrev pub former_at : Tables → Key → Former
former_at t k = former_in k (rows_in t k.table)

-- the tables with what stood under a key again: its row in the place of the one that stands there, or none
abbrev pub put_back : Tables → Former → Tables
put_back t (Row row) = with_row t row
put_back t (Nothing k) = without_key t k

-- the tables with all of it again, the last first
abbrev pub taken_back : Tables → List Former → Tables
taken_back t [] = t
taken_back t (former ∷ formers) = put_back (taken_back t formers) former

-- a row that goes back goes into the place of another
abbrev pub HasPlace : Tables → Former → Type 0
HasPlace t (Row row) = is_there t (key_of row) ≡ true
HasPlace t (Nothing k) = ⊤

-- so does each, the last first
abbrev pub HavePlaces : Tables → List Former → Type 0
HavePlaces t [] = ⊤
HavePlaces t (former ∷ formers) = HavePlaces t formers × HasPlace (taken_back t formers) former

-- the list is empty, and takes up so many without memory
abbrev pub IsEmptyFor : ℕ → Vec Former Global → Type 0
IsEmptyFor count formers = (formers.items ≡ []) × (vec_len formers ≡ 0) × (count ≤ vec_capacity formers)
