-- The tables that a keeper in memory holds, and the change that they are ready for.
use Rattle.std.specs.Prelude.{Option, Some, None}
use Rattle.desk_base.specs.declared.rows.tables.Tables.{Tables}
use Rattle.desk_base.specs.declared.asked.acts.Change.{Change}
use Rattle.desk_base.specs.changes.Changes.{with_change}
use Rattle.desk_keeper.specs.declared.held.Held.{Held}
use Rattle.desk_keeper.specs.declared.held.Held.TheVariants.{Still, Ready}

-- the tables
abbrev pub tables_in : Held → Tables
tables_in (Still tables) = tables
tables_in (Ready prepared) = prepared.tables

-- the change that they are ready for
abbrev pub change_in : Held → Option Change
change_in (Still tables) = None
change_in (Ready prepared) = Some prepared.change

-- the tables with the change that they are ready for, if there is one
abbrev pub changed_by : Option Change → Tables → Tables
changed_by None tables = tables
changed_by (Some change) tables = with_change tables change
