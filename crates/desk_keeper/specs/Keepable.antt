-- Rows that a keeper takes.
use Rattle.std.specs.Prelude.{IsTrue}
use Rattle.desk_base.specs.declared.rows.tables.Tables.{Tables}
use Rattle.desk_base.specs.declared.rows.tables.AnyRow.{AnyRow}
use Rattle.desk_base.specs.rules.Sound.{keeps_fields}

-- there are tables in which the row keeps its field and tree rules, so it keeps those that speak of it alone
abbrev pub IsKeepable : AnyRow → Type 0
IsKeepable row = (t : Tables) × IsTrue (keeps_fields t row)
