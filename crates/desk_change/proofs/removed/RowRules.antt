-- The rules that rows keep whatever is booked: they make tables well formed, and with the rules of bookings sound.
use Rattle.std.proofs.Common.{◌≡◌, ◌≤◌, true, [], map, length, ◌⊎◌, sym, subst}
use Rattle.std.proofs.lemmas.List.{length-map}
use Rattle.std.specs.Prelude.{Contains}
use Rattle.std.specs.List.Sorted.{IsStrictlySortedBy}
use Rattle.desk_base.specs.declared.rows.tables.Tables.{Tables}
use Rattle.desk_base.specs.declared.rows.tables.Table.{Table}
use Rattle.desk_base.specs.declared.rows.tables.Key.{Key}
use Rattle.desk_base.specs.declared.rows.tables.AnyRow.{AnyRow}
use Rattle.desk_base.specs.declared.rows.groups.GroupRow.{GroupRow}
use Rattle.desk_base.specs.declared.asked.rules.TableRule.{TableRule}
use Rattle.desk_base.specs.declared.asked.rules.TableRule.TheVariants.{Order, Limit, Field, Citation, Fits as FitsRule, Booked, Count}
use Rattle.desk_base.specs.rules.TableLimits.{limit_of}
use Rattle.desk_base.specs.rows.Keys.{key_cmp}
use Rattle.desk_base.specs.rows.Rows.{rows_in, key_of, keys_in, citations_of}
use Rattle.desk_base.specs.meaning.Load.{Fits, ask_of}
use Rattle.desk_base.specs.rules.Sound.{Keeps, IsSound, AreWellFormed, IsBooked, keeps_fields, bookings_of, is_counted}
use Rattle.desk_base.proofs.lists.Members.{IsIn, in_from_contains, contains_from_in}
use Rattle.desk_base.proofs.tables.Sounds.{adjacent, under_limit, enough_taken}

-- in each table the keys rise, the rows are no more than its limit, and each keeps its fields and names what is there
pub record KeepRowRules (t : Tables) : Type 0 where
  pub order : (table : Table) → IsStrictlySortedBy key_cmp (keys_in t table)
  pub limit : (table : Table) → length (rows_in t table) ≤ limit_of table
  pub field : (table : Table) (x : AnyRow) → IsIn x (rows_in t table) → keeps_fields t x ≡ true
  pub citation : (table : Table) (x : AnyRow) (c : Key) → IsIn x (rows_in t table) → IsIn c (citations_of x) → IsIn c (keys_in t c.table)

module _ (t : Tables) (h : KeepRowRules t) where
  in_order : (k : Key) → Keeps Order t k
  in_order k = λ before after j e. adjacent before after j k (subst (IsStrictlySortedBy key_cmp) e (h.order k.table))

  within_limit : (k : Key) → Keeps Limit t k
  within_limit k = λ before after e. under_limit before after k (limit_of k.table) (subst (λ l. length l ≤ limit_of k.table) e (subst (λ n. n ≤ limit_of k.table) (sym (length-map (rows_in t k.table) key_of)) (h.limit k.table)))

  by_fields : (k : Key) → Keeps Field t k
  by_fields k = λ row c e. h.field k.table row (in_from_contains (rows_in t k.table) row c)

  by_citations : (k : Key) → Keeps Citation t k
  by_citations k = λ row c r e i. contains_from_in (keys_in t c.table) c (h.citation k.table row c (in_from_contains (rows_in t k.table) row r) (in_from_contains (citations_of row) c i))

  -- the tables are well formed
  pub well_formed_by_rows : AreWellFormed t
  well_formed_by_rows = record {
    order = in_order;
    limit = λ table. enough_taken table (length (rows_in t table)) (h.limit table);
    field = by_fields;
    citation = by_citations;
  }

  -- ---- with the rules of bookings

  module _ (fits : Fits t (map ask_of t.bookings)) (booked : (g : GroupRow) → Contains t.groups g → (bookings_of t g ≡ []) ⊎ IsBooked t g) (count : is_counted t ≡ true) where
    keeps_each : (rule : TableRule) (k : Key) → Keeps rule t k
    keeps_each Order k = in_order k
    keeps_each Limit k = within_limit k
    keeps_each Field k = by_fields k
    keeps_each Citation k = by_citations k
    keeps_each FitsRule k = λ e m i. fits.at k.a m i
    keeps_each Booked k = λ g c e. booked g c
    keeps_each Count k = λ e. count

    -- they are sound
    pub sound_by_rows : IsSound t
    sound_by_rows = record { keeps = keeps_each }
