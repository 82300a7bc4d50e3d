-- What a keeper tells: the tables that it keeps, and which of its calls fail.
use Rattle.std.specs.Prelude.{ℕ, List, Option}
use Rattle.std.specs.Option.{option_map}
use Rattle.desk_base.specs.declared.rows.tables.Tables.{Tables}
use Rattle.desk_base.specs.declared.asked.acts.Change.{Change}
use Rattle.desk_base.specs.changes.Changes.{with_change}
use Rattle.desk_io.specs.Counts.{counted}

-- the tables, the numbers of the calls of `load` and `commit` that fail, and how many of these calls came so far
pub record Kept : Type 0 where
  pub tables : Tables
  pub failing : List ℕ
  pub calls : ℕ

-- after one more call
abbrev pub called : Kept → Kept
called k = record k { calls = counted k.calls }

-- after the commit of a change
abbrev pub committed : Change → Kept → Kept
committed change k = record k { tables = with_change k.tables change; calls = counted k.calls }

-- what is told after one more call
abbrev pub after_call : Option Kept → Option Kept
after_call told = option_map called told

-- what is told after the commit of a change
abbrev pub after_commit : Change → Option Kept → Option Kept
after_commit change told = option_map (committed change) told
