-- What each change notes: the row of its caller and the counters, which may as well be noted before its other rows.
use Rattle.std.proofs.Common.{◌≡◌, ◌≢◌, ℕ, ◌+◌, Bool, true, false, map, ◌⊎◌, inl, inr, refl, sym, subst}
use Rattle.std.proofs.lemmas.Bool.{false≢true}
use Rattle.desk_base.specs.declared.rows.tables.Tables.{Tables}
use Rattle.desk_base.specs.declared.rows.tables.Table.{Table}
use Rattle.desk_base.specs.declared.rows.tables.Key.{Key}
use Rattle.desk_base.specs.declared.rows.tables.AnyRow.{AnyRow}
use Rattle.desk_base.specs.declared.rows.bookings.CallerRow.{CallerRow}
use Rattle.desk_base.specs.declared.rows.tables.Table.TheVariants.{Zone as ZoneTable, Booking as BookingTable, Caller as CallerTable}
use Rattle.desk_base.specs.declared.rows.tables.AnyRow.TheVariants.{Zone, Caller}
use Rattle.desk_base.specs.declared.rows.bookings.Receipt.TheVariants as receipt
use Rattle.desk_base.specs.declared.rows.bookings.Receipt.{Receipt}
use Rattle.desk_base.specs.declared.asked.rules.TableRule.TheVariants.{Count}
use Rattle.desk_base.specs.declared.asked.acts.Act.TheVariants as act
use Rattle.desk_base.specs.declared.asked.acts.Call.{Call}
use Rattle.desk_base.specs.rules.Limits.{revision_limit}
use Rattle.desk_base.specs.rows.Keys.{id_key}
use Rattle.desk_base.specs.rows.Rows.{rows_in, citations_of}
use Rattle.desk_base.specs.meaning.Load.{ask_of}
use Rattle.desk_base.specs.asked.Refusing.{has_place}
use Rattle.desk_base.specs.asked.Acts.{after_act}
use Rattle.desk_base.specs.changes.Changes.{with_row, without_row, without_key, with_change}
use Rattle.desk_base.specs.rules.Sound.{IsSound}
use Rattle.desk_base.proofs.lists.Members.{IsIn}
use Rattle.desk_base.proofs.tables.Sounds.{bookings_fit}
use Rattle.desk_base.proofs.tables.RowPuts.{in_put}
use Rattle.desk_base.proofs.puts.RoomPuts.{fits_with_quiet}
use Rattle.desk_base.proofs.puts.SoundPuts.{sound_with_row}
use Rattle.desk_base.proofs.puts.ActPuts.{is_caller, counted, next_counted, sound_counted}
use Rattle.desk_change.proofs.removed.FieldsWithout.{IsUncited}

-- the row that a call leaves
abbrev pub row_left : Call → Receipt → CallerRow
row_left call given = record { caller = call.caller; last = call.number; receipt = given }

-- the tables with the row that a call leaves, and with the counters after an act that makes no booking
abbrev pub noted : Tables → Call → Receipt → Tables
noted t call given = counted (with_row t (Caller (row_left call given))) (t.revision + 1) (t.last_booking + 0)

-- ---- they may be noted first

-- it is the table of callers
abbrev pub is_callers : Table → Bool
is_callers CallerTable = true
is_callers _ = false

removed_later : (t : Tables) (x : CallerRow) (revision last : ℕ) (table : Table) (k : Key) → is_callers table ≡ false
    → counted (with_row (without_row t table k) (Caller x)) revision last ≡ without_row (counted (with_row t (Caller x)) revision last) table k
removed_later t x revision last CallerTable k e = absurd (false≢true (sym e))
removed_later t x revision last ZoneTable k e = refl
removed_later t x revision last _ k e = refl

put_later : (t : Tables) (x : CallerRow) (revision last : ℕ) (row : AnyRow) → is_caller row ≡ false
    → counted (with_row (with_row t row) (Caller x)) revision last ≡ with_row (counted (with_row t (Caller x)) revision last) row
put_later t x revision last (Caller y) e = absurd (false≢true (sym e))
put_later t x revision last (Zone y) e = refl
put_later t x revision last row e = refl

module _ (t : Tables) (call : Call) where
  pub after_remove : (key : Key) → is_callers key.table ≡ false → after_act t call (act.Remove key) ≡ without_key (noted t call receipt.Removed) key
  unfolding after_act with_change
  after_remove key e = removed_later t (row_left call receipt.Removed) (t.revision + 1) (t.last_booking + 0) key.table key e

  pub after_put : (row : AnyRow) → is_caller row ≡ false → after_act t call (act.Put row) ≡ with_row (noted t call receipt.Put) row
  unfolding after_act with_change
  after_put row e = put_later t (row_left call receipt.Put) (t.revision + 1) (t.last_booking + 0) row e

  -- ---- what they leave

  module _ (given : Receipt) where
    -- sound tables stay sound
    pub sound_noted : IsSound t → has_place t (id_key CallerTable call.caller) ≡ true → t.revision ≢ revision_limit → IsSound (noted t call given)
    sound_noted s place goes_on =
        let x = row_left call given in
        sound_counted (with_row t (Caller x)) (t.revision + 1) (t.last_booking + 0)
        (sound_with_row t (Caller x) s (record { cited = refl; fields = refl; place = place; unbooked = refl }) (fits_with_quiet t (Caller x) (map ask_of t.bookings) refl (bookings_fit t s)))
        (next_counted t (s.keeps Count (id_key BookingTable 0) refl) goes_on)

    -- their rows are those with the row of the call
    pub noted_rows : (table : Table) → rows_in (noted t call given) table ≡ rows_in (with_row t (Caller (row_left call given))) table
    noted_rows ZoneTable = refl
    noted_rows _ = refl

    -- each is that one, or was there
    pub in_noted : (table : Table) (x : AnyRow) → IsIn x (rows_in (noted t call given) table) → (x ≡ Caller (row_left call given)) ⊎ IsIn x (rows_in t table)
    in_noted table x i = in_put t (Caller (row_left call given)) table x (subst (IsIn x) (noted_rows table) i)

    -- a key that no row names is named by none
    pub uncited_noted : (key : Key) → IsUncited t key → IsUncited (noted t call given) key
    uncited_noted key free table x i j = elim (in_noted table x i) [
      | inl e ↦ subst (λ y. IsIn key (citations_of y)) e j
      | inr old ↦ free table x old j
    ]
