-- A load that gives no tables: the keeper failed, or memory was not found.
use Rattle.std.specs.Prelude.{ℕ, ◌≡◌, Option, ⊤}
use Rattle.std.specs.declared.result.Result.{Result}
use Rattle.std.specs.declared.result.Result.TheVariants.{Ok, Err}
use Rattle.desk_base.specs.declared.rows.tables.Tables.{Tables}
use Rattle.desk_keeper.specs.declared.errors.LoadError.{LoadError}
use Rattle.desk_keeper.specs.declared.errors.LoadError.TheVariants.{Failed, NoMemory}
use Rattle.desk_io.specs.Counts.{Rose}
use Rattle.desk_keeper.specs.Kept.{Kept, after_call}

-- the keeper failed
abbrev pub HasFailed : Result Tables LoadError → Type 0
HasFailed (Ok t) = ⊥
HasFailed (Err Failed) = ⊤
HasFailed (Err NoMemory) = ⊥

-- what is told after a load that gave no tables: for want of memory all is as before
abbrev pub after_stop : LoadError → Option Kept → Option Kept
after_stop Failed told = after_call told
after_stop NoMemory told = told

-- the count of faults rises where the keeper failed, and stays where memory was not found
abbrev pub CountsStop : LoadError → ℕ → ℕ → Type 0
CountsStop Failed before now = Rose before now
CountsStop NoMemory before now = now ≡ before
