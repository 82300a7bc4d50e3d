-- The words that a program is started with.
use Rattle.std.specs.Prelude.{◌≡◌, ℕ, List, [], ◌∷◌, codes, Option, Some, None}
use Rattle.desk_base.specs.declared.rows.tables.Tables.{Tables}
use Rattle.desk_base.specs.rows.Trial.{no_rows, trial}
use Rattle.desk_batch.specs.declared.words.Store.{Store}
use Rattle.desk_batch.specs.declared.words.Store.TheVariants.{Trial, Empty}

-- a value of which this holds, or none where it holds of none
abbrev pub Finds : {A : Type 0} → (A → Type 0) → Option A → Type 0
Finds Holds (Some x) = Holds x
Finds {A} Holds None = (x : A) → ¬ (Holds x)

-- the words that serve a store
abbrev pub words_for : Store → List (List ℕ)
words_for Trial = codes "batch" ∷ codes "trial" ∷ []
words_for Empty = codes "batch" ∷ codes "empty" ∷ []

-- the tables of a store at the opening
abbrev pub tables_of : Store → Tables
tables_of Trial = trial
tables_of Empty = no_rows

-- the words are a command
abbrev pub IsCommand : List (List ℕ) → Type 0
IsCommand words = (store : Store) × (words ≡ words_for store)

-- the line that says which words there are
abbrev pub usage_line : List ℕ
usage_line = codes "usage: desk batch STORE | import STORE CALLER FIRST | board STORE FROM TO | demo --seed N | serve STORE [--port N] [--workers N] [--connections N]\n"
