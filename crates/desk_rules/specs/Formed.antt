-- The rules that the rows of loaded tables keep.
use Rattle.std.specs.Prelude.{◌≡◌}
use Rattle.std.specs.declared.cmp.Ordering.TheVariants.{Less}
use Rattle.desk_base.specs.declared.rows.tables.Tables.{Tables}
use Rattle.desk_base.specs.declared.rows.tables.Key.{Key}
use Rattle.desk_base.specs.declared.asked.rules.TableRule.{TableRule}
use Rattle.desk_base.specs.declared.asked.rules.TableRule.TheVariants.{Order, Limit, Field, Citation}
use Rattle.desk_base.specs.rows.Keys.{key_cmp}
use Rattle.desk_base.specs.rules.Sound.{Keeps}

-- the rule is kept at every key
abbrev pub IsKept : TableRule → Tables → Type 0
IsKept rule t = (k : Key) → Keeps rule t k

-- at this key the tables break the rule, and at each lesser one they keep it
pub record IsLeastBroken (rule : TableRule) (t : Tables) (k : Key) : Type 0 where
  pub broken : Keeps rule t k → ⊥
  pub least : (j : Key) → key_cmp j k ≡ Less → Keeps rule t j

-- the rules on order, limits, fields and citations are kept at every key
pub record AreFormed (t : Tables) : Type 0 where
  pub order : IsKept Order t
  pub limit : IsKept Limit t
  pub field : IsKept Field t
  pub citation : IsKept Citation t
