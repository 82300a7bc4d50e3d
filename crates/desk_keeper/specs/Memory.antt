-- What contracts see of a keeper and an opener in memory.
use Rattle.std.specs.Prelude.{ℕ, List, [], ◌≡◌, Option, Some, None}
use Rattle.std.specs.List.{All}
use Rattle.desk_base.specs.declared.rows.tables.Tables.{Tables}
use Rattle.desk_base.specs.declared.asked.acts.Change.{Change}
use Rattle.desk_io.specs.Counts.{counted}
use Rattle.desk_keeper.specs.Kept.{Kept, called}
use Rattle.desk_keeper.specs.Held.{changed_by}
use Rattle.desk_keeper.specs.Stock.{Stock}

-- what it keeps, the change that it is ready for, and how many calls failed so far
pub record MemoryKept : Type 0 where
  pub kept : Kept
  pub ready : Option Change
  pub faults : ℕ

-- a keeper of which no call was made yet
abbrev pub new_keeper : Tables → List ℕ → MemoryKept
new_keeper tables failing = record { kept = record { tables = tables; failing = failing; calls = 0 }; ready = None; faults = 0 }

-- after a commit: the change that it is ready for is made
abbrev pub changed : MemoryKept → MemoryKept
changed k = record k { kept = called (record k.kept { tables = changed_by k.ready k.kept.tables }); ready = None }

-- after a call that failed
abbrev pub failed : MemoryKept → MemoryKept
failed k = record k { kept = called k.kept; ready = None; faults = counted k.faults }

-- no load, no commit and no fault came yet
abbrev pub IsFresh : MemoryKept → Type 0
IsFresh k = (k.kept.calls ≡ 0) × (k.faults ≡ 0)

-- so it is of each of these stores
abbrev pub AreFresh : List (List ℕ × MemoryKept) → Type 0
AreFresh stores = All (λ x. IsFresh x.1) stores

-- the stores, how many are out, and how many calls failed so far
pub record MemoryOpened : Type 0 where
  pub stock : Stock MemoryKept
  pub out : ℕ
  pub faults : ℕ

-- an opener of which no call was made yet
abbrev pub new_opener : List (List ℕ × MemoryKept) → MemoryOpened
new_opener stores = record { stock = record { stores = stores; given_back = [] }; out = 0; faults = 0 }
