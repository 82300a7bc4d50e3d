-- Rows of tables that share a kind of row.
use Rattle.std.proofs.Common.{◌≡◌, Bool, true, ◌&&◌, None, refl, is_none}
use Rattle.desk_base.specs.declared.rows.tables.Tables.{Tables}
use Rattle.desk_base.specs.declared.rows.tables.Table.{Table}
use Rattle.desk_base.specs.declared.rows.resources.NamedRow.{NamedRow}
use Rattle.desk_base.specs.declared.rows.tables.Table.TheVariants.{Site, Role, Characteristic, Territory}
use Rattle.desk_base.specs.rows.Lookups.{named_in}
use Rattle.desk_base.specs.rules.Fields.{named_rules}
use Rattle.desk_base.specs.rules.Rules.{first_broken}
use Rattle.desk_base.specs.rules.Sound.{keeps_fields}
use Rattle.desk_base.specs.rows.Rows.{citations_of}
use Rattle.desk_rules.specs.Missing.{missing}

and_true : (b : Bool) → b ≡ (b && true)
and_true true = refl
and_true _ = refl

-- a named row keeps the same rules in each table
pub named_keeps : (t : Tables) (table : Table) (x : NamedRow) → is_none (first_broken (named_rules x)) ≡ keeps_fields t (named_in table x)
named_keeps t Site x = and_true (is_none (first_broken (named_rules x)))
named_keeps t Role x = and_true (is_none (first_broken (named_rules x)))
named_keeps t Characteristic x = and_true (is_none (first_broken (named_rules x)))
named_keeps t Territory x = and_true (is_none (first_broken (named_rules x)))
named_keeps t _ x = and_true (is_none (first_broken (named_rules x)))

-- it names no row
pub named_missing : (t : Tables) (table : Table) (x : NamedRow) → None ≡ missing t (citations_of (named_in table x))
named_missing t Site x = refl
named_missing t Role x = refl
named_missing t Characteristic x = refl
named_missing t Territory x = refl
named_missing t _ x = refl
