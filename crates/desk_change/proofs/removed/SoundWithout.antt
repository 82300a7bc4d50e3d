-- Sound tables stay so without a row that no row names.
use Rattle.std.proofs.Common.{◌≡◌, ◌≤◌, true, false, ◌&&◌, nat_le, [], map, length, ◌⊎◌, refl, sym, ◌∙◌, subst, arith}
use Rattle.std.proofs.lemmas.Bool.{false≢true}
use Rattle.std.proofs.lemmas.List.{length-map}
use Rattle.std.specs.Prelude.{Contains}
use Rattle.std.specs.List.{list_all}
use Rattle.desk_base.specs.declared.rows.tables.Tables.{Tables}
use Rattle.desk_base.specs.declared.rows.tables.Table.{Table}
use Rattle.desk_base.specs.declared.rows.tables.Key.{Key}
use Rattle.desk_base.specs.declared.rows.groups.GroupRow.{GroupRow}
use Rattle.desk_base.specs.declared.rows.bookings.BookingRow.{BookingRow}
use Rattle.desk_base.specs.declared.rows.tables.Table.TheVariants.{Zone as ZoneTable, Group as GroupTable, Booking as BookingTable}
use Rattle.desk_base.specs.declared.rows.tables.AnyRow.TheVariants.{Group}
use Rattle.desk_base.specs.declared.asked.rules.TableRule.TheVariants.{Booked, Count}
use Rattle.desk_base.specs.rules.Limits.{revision_limit, serial_limit}
use Rattle.desk_base.specs.rules.TableLimits.{limit_of}
use Rattle.desk_base.specs.rows.Keys.{id_key}
use Rattle.desk_base.specs.rows.Rows.{rows_in, key_of}
use Rattle.desk_base.specs.meaning.Load.{Fits, ask_of}
use Rattle.desk_base.specs.changes.Changes.{without_row, without_key}
use Rattle.desk_base.specs.rules.Sound.{IsSound, AreWellFormed, IsBooked, bookings_of, is_counted}
use Rattle.desk_base.proofs.lists.Members.{in_mapped, in_from_contains, contains_from_in}
use Rattle.desk_base.proofs.tables.Sounds.{keys_rise, few_keys}
use Rattle.desk_base.proofs.tables.AnyRows.{same_group, in_back}
use Rattle.desk_base.proofs.tables.KeyRises.{rise-without_key}
use Rattle.desk_base.proofs.puts.Suits.{own_table}
use Rattle.desk_base.proofs.puts.SoundPuts.{booked_alike}
use Rattle.desk_base.proofs.booked.Rebooked.{is_bookings}
use Rattle.desk_change.proofs.removed.RowRules.{KeepRowRules, well_formed_by_rows, sound_by_rows}
use Rattle.desk_change.proofs.removed.Without.{row_was, rows_fewer}
use Rattle.desk_change.proofs.removed.FieldsWithout.{IsUncited, names_still, fields_without}

-- ---- what stays but for the table of the key

-- bookings and counters are as before
pub rest_stays : (t : Tables) (table : Table) (k : Key) → is_bookings table ≡ false → ((without_row t table k).bookings ≡ t.bookings) × ((without_row t table k).revision ≡ t.revision) × ((without_row t table k).last_booking ≡ t.last_booking)
rest_stays t BookingTable k e = absurd (false≢true (sym e))
rest_stays t ZoneTable k e = (refl, refl, refl)
rest_stays t _ k e = (refl, refl, refl)

module _ (t : Tables) (k : Key) (s : IsSound t) (free : IsUncited t k) where
  abbrev rest : Tables
  rest = without_key t k

  -- ---- the rules of rows

  few_rest : (table : Table) → length (rows_in rest table) ≤ limit_of table
  few_rest table =
      let fewer = rows_fewer t k table in
      let few = subst (λ n. n ≤ limit_of table) (length-map (rows_in t table) key_of) (few_keys t table s) in omega arith

  row_rules_without : KeepRowRules rest
  row_rules_without = record {
    order = rise-without_key t k (λ table. keys_rise t table s);
    limit = few_rest;
    field = λ table x i. fields_without t k s free x (own_table rest table x i);
    citation = names_still t k s free;
  }

  -- the tables are well formed
  pub well_formed_without_uncited : AreWellFormed rest
  well_formed_without_uncited = well_formed_by_rows rest row_rules_without

  -- ---- the bookings

  module _ (q : is_bookings k.table ≡ false) where
    groups_as_before : (g : GroupRow) → Contains rest.groups g → (bookings_of rest g ≡ []) ⊎ IsBooked rest g
    groups_as_before g c =
        let there = in_back Group same_group t.groups g (row_was t k GroupTable (Group g) (in_mapped Group g rest.groups (in_from_contains rest.groups g c))) in
        booked_alike t rest g (rest_stays t k.table k q).0 (s.keeps Booked (id_key GroupTable g.id) g (contains_from_in t.groups g there) refl)

    counted_as_before : is_counted rest ≡ true
    counted_as_before =
        let e = rest_stays t k.table k q in
        (λ i. nat_le (e.1 i) revision_limit && nat_le (e.2 i) serial_limit && list_all (λ (b : BookingRow). nat_le b.id (e.2 i)) (e.0 i)) ∙ s.keeps Count (id_key BookingTable 0) refl

    -- where the bookings fit they are sound
    pub sound_without_uncited : Fits rest (map ask_of t.bookings) → IsSound rest
    sound_without_uncited room = sound_by_rows rest row_rules_without (subst (λ l. Fits rest (map ask_of l)) (sym (rest_stays t k.table k q).0) room) groups_as_before counted_as_before
