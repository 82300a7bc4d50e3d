-- Rows that keep their rules.
use Rattle.std.specs.Prelude.{IsTrue}
use Rattle.desk_base.specs.declared.rows.tables.Tables.{Tables}
use Rattle.desk_base.specs.declared.rows.tables.AnyRow.{AnyRow}
use Rattle.desk_base.specs.rules.Sound.{keeps_fields}

-- there are tables in which the row keeps its field and tree rules, so it keeps those that speak of it alone
abbrev pub KeepsRules : AnyRow → Type 0
KeepsRules row = (t : Tables) × IsTrue (keeps_fields t row)
