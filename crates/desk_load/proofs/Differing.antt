-- Tables with a row that is put or taken out differ at its key.
use Rattle.std.proofs.Common.{◌≡◌, Bool, true, cond, not, List, [], ◌∷◌, ◌++◌, map, refl, sym, ap, ◌∙◌}
use Rattle.std.proofs.lemmas.Bool.{false≢true}
use Rattle.std.proofs.lemmas.Cmp.{tied_back}
use Rattle.std.proofs.lemmas.List.Elements.{filter-append}
use Rattle.std.specs.Prelude.{filter}
use Rattle.std.specs.List.Sorted.{IsStrictlySortedBy}
use Rattle.std.specs.Ordering.{is_lt, is_eq}
use Rattle.std.specs.declared.cmp.Ordering.{Ordering}
use Rattle.std.specs.declared.cmp.Ordering.TheVariants.{Less, Equal, Greater}
use Rattle.desk_base.specs.declared.rows.tables.Tables.{Tables}
use Rattle.desk_base.specs.declared.rows.tables.Table.{Table}
use Rattle.desk_base.specs.declared.rows.tables.Key.{Key}
use Rattle.desk_base.specs.declared.rows.tables.AnyRow.{AnyRow}
use Rattle.desk_base.specs.declared.rows.tables.Table.TheVariants.{Zone as ZoneTable, Calendar as CalendarTable, Work as WorkTable, Break as BreakTable, Day as DayTable, Off as OffTable, Resource as ResourceTable, Member as MemberTable}
use Rattle.desk_base.specs.declared.rows.tables.AnyRow.TheVariants.{Zone, Calendar, Work, Break, Day, Off, Resource, Member}
use Rattle.desk_base.specs.declared.asked.acts.Act.TheVariants as act
use Rattle.desk_base.specs.declared.asked.acts.Call.{Call}
use Rattle.desk_base.specs.rows.Keys.{key_cmp}
use Rattle.desk_base.specs.rows.Rows.{key_of}
use Rattle.desk_base.specs.rows.Lookups.{keys_by, KeysRise}
use Rattle.desk_base.specs.asked.Acts.{change_of}
use Rattle.desk_base.specs.asked.Refusing.{is_key}
use Rattle.desk_base.specs.asked.Steps.{bears_on_room}
use Rattle.desk_base.specs.changes.Changes.{is_below, rows_below, rows_above, with_one, without_one, with_row, without_row, without_key, with_change}
use Rattle.desk_base.proofs.lists.Members.{all_at, in-filter, in_mapped}
use Rattle.desk_base.proofs.lists.Filtered.{all_pass, none_pass}
use Rattle.desk_base.proofs.tables.KeyOrder.{is_key-itself}
use Rattle.desk_base.proofs.tables.KeyParts.{less_back, greater_back}
use Rattle.desk_base.proofs.tables.Sounds.{key_total}
use Rattle.desk_load.specs.Differing.{rows_beside, DiffersAt}

-- ---- rows beside a key

below_is_other : (k j : Key) → is_below j k ≡ true → not (is_key k j) ≡ true
below_is_other k j e = by (key_cmp j k) refl e
  where
    by : (o : Ordering) → key_cmp j k ≡ o → is_lt o ≡ true → not (is_key k j) ≡ true
    by Less f g = ap (λ o. not (is_eq o)) (less_back j k f)
    by Equal f g = absurd (false≢true g)
    by Greater f g = absurd (false≢true g)

above_is_other : (k j : Key) → is_below k j ≡ true → not (is_key k j) ≡ true
above_is_other k j e = by (key_cmp k j) refl e
  where
    by : (o : Ordering) → key_cmp k j ≡ o → is_lt o ≡ true → not (is_key k j) ≡ true
    by Less f g = ap (λ o. not (is_eq o)) f
    by Equal f g = absurd (false≢true g)
    by Greater f g = absurd (false≢true g)

module _ {R : Type 0} (any : R → AnyRow) where
  -- the rows below a key and those above it are those beside it
  parted : (k : Key) (rows : List R) → IsStrictlySortedBy key_cmp (keys_by any rows) → rows_below (λ y. key_of (any y)) k rows ++ rows_above (λ y. key_of (any y)) k rows ≡ rows_beside any k rows
  unfolding IsStrictlySortedBy
  parted k [] s = refl
  parted k (x ∷ xs) s = by (key_cmp (key_of (any x)) k) refl (parted k xs s.1)
    where
      j : Key
      j = key_of (any x)

      below : List R
      below = rows_below (λ y. key_of (any y)) k xs

      above : List R
      above = rows_above (λ y. key_of (any y)) k xs

      beside : List R
      beside = rows_beside any k xs

      -- where the first is above the key, so are the others
      none_below : key_cmp k j ≡ Less → below ≡ []
      none_below e = none_pass (λ y. is_below (key_of (any y)) k) xs (λ y i.
          let l = all_at (λ z. key_cmp j z ≡ Less) (keys_by any xs) (key_of (any y)) s.0 (in_mapped key_of (any y) (map any xs) (in_mapped any y xs i)) in
          ap is_lt (less_back k (key_of (any y)) (key_total.trans k j (key_of (any y)) e l)))

      by : (o : Ordering) → key_cmp j k ≡ o → below ++ above ≡ beside → rows_below (λ y. key_of (any y)) k (x ∷ xs) ++ rows_above (λ y. key_of (any y)) k (x ∷ xs) ≡ rows_beside any k (x ∷ xs)
      by Less e h =
          let back = less_back j k e in
          (λ i. cond (is_lt (e i)) (x ∷ below) below ++ cond (is_lt (back i)) (x ∷ above) above)
          ∙ ap (λ l. x ∷ l) h ∙ sym (ap (λ o. cond (not (is_eq o)) (x ∷ beside) beside) back)
      by Equal e h =
          let back = tied_back key_total j k e in
          (λ i. cond (is_lt (e i)) (x ∷ below) below ++ cond (is_lt (back i)) (x ∷ above) above)
          ∙ h ∙ sym (ap (λ o. cond (not (is_eq o)) (x ∷ beside) beside) back)
      by Greater e h =
          let back = greater_back j k e in
          let none = none_below back in
          (λ i. cond (is_lt (e i)) (x ∷ below) below ++ cond (is_lt (back i)) (x ∷ above) above)
          ∙ ap (λ l. l ++ x ∷ above) none
          ∙ ap (λ l. x ∷ l) (sym (ap (λ l. l ++ above) none) ∙ h) ∙ sym (ap (λ o. cond (not (is_eq o)) (x ∷ beside) beside) back)

  abbrev other : Key → R → Bool
  other k y = not (is_key k (key_of (any y)))

  below_stays : (k : Key) (rows : List R) → filter (other k) (rows_below (λ y. key_of (any y)) k rows) ≡ rows_below (λ y. key_of (any y)) k rows
  below_stays k rows = all_pass (other k) (rows_below (λ y. key_of (any y)) k rows) (λ y i. below_is_other k (key_of (any y)) (in-filter (λ y. is_below (key_of (any y)) k) y rows i).1)

  above_stays : (k : Key) (rows : List R) → filter (other k) (rows_above (λ y. key_of (any y)) k rows) ≡ rows_above (λ y. key_of (any y)) k rows
  above_stays k rows = all_pass (other k) (rows_above (λ y. key_of (any y)) k rows) (λ y i. above_is_other k (key_of (any y)) (in-filter (λ y. is_below k (key_of (any y))) y rows i).1)

  -- a row more or fewer leaves those beside it
  pub beside_put : (x : R) (rows : List R) → IsStrictlySortedBy key_cmp (keys_by any rows) → rows_beside any (key_of (any x)) (with_one (λ y. key_of (any y)) x rows) ≡ rows_beside any (key_of (any x)) rows
  unfolding with_one
  beside_put x rows s =
      let k = key_of (any x) in
      let below = rows_below (λ y. key_of (any y)) k rows in
      let above = rows_above (λ y. key_of (any y)) k rows in
      filter-append (other k) below (x ∷ above)
      ∙ (λ i. below_stays k rows i ++ cond (not (is_key-itself k i)) (x ∷ filter (other k) above) (filter (other k) above))
      ∙ ap (λ l. below ++ l) (above_stays k rows)
      ∙ parted k rows s

  pub beside_taken : (k : Key) (rows : List R) → IsStrictlySortedBy key_cmp (keys_by any rows) → rows_beside any k (without_one (λ y. key_of (any y)) k rows) ≡ rows_beside any k rows
  unfolding without_one
  beside_taken k rows s =
      filter-append (other k) (rows_below (λ y. key_of (any y)) k rows) (rows_above (λ y. key_of (any y)) k rows)
      ∙ (λ i. below_stays k rows i ++ above_stays k rows i)
      ∙ parted k rows s

-- ---- tables

module _ {t u : Tables} {k : Key} where
  differs : rows_beside Zone k u.zones ≡ rows_beside Zone k t.zones → rows_beside Calendar k u.calendars ≡ rows_beside Calendar k t.calendars → rows_beside Work k u.works ≡ rows_beside Work k t.works → rows_beside Break k u.breaks ≡ rows_beside Break k t.breaks → rows_beside Day k u.days ≡ rows_beside Day k t.days → rows_beside Off k u.offs ≡ rows_beside Off k t.offs → rows_beside Resource k u.resources ≡ rows_beside Resource k t.resources → rows_beside Member k u.members ≡ rows_beside Member k t.members → u.bookings ≡ t.bookings → DiffersAt t u k
  differs a b c d e f g h i = record { zones = a; calendars = b; works = c; breaks = d; days = e; offs = f; resources = g; members = h; bookings = i }

-- with a row that is put
pub differs_put : (t : Tables) (row : AnyRow) → KeysRise t → bears_on_room (key_of row).table ≡ true → DiffersAt t (with_row t row) (key_of row)
differs_put t (Zone x) s e = differs (beside_put Zone x t.zones (s ZoneTable)) refl refl refl refl refl refl refl refl
differs_put t (Calendar x) s e = differs refl (beside_put Calendar x t.calendars (s CalendarTable)) refl refl refl refl refl refl refl
differs_put t (Work x) s e = differs refl refl (beside_put Work x t.works (s WorkTable)) refl refl refl refl refl refl
differs_put t (Break x) s e = differs refl refl refl (beside_put Break x t.breaks (s BreakTable)) refl refl refl refl refl
differs_put t (Day x) s e = differs refl refl refl refl (beside_put Day x t.days (s DayTable)) refl refl refl refl
differs_put t (Off x) s e = differs refl refl refl refl refl (beside_put Off x t.offs (s OffTable)) refl refl refl
differs_put t (Resource x) s e = differs refl refl refl refl refl refl (beside_put Resource x t.resources (s ResourceTable)) refl refl
differs_put t (Member x) s e = differs refl refl refl refl refl refl refl (beside_put Member x t.members (s MemberTable)) refl
differs_put t row s e = absurd (false≢true e)

-- without the row of a key
differs_in : (t : Tables) (table : Table) (k : Key) → KeysRise t → bears_on_room table ≡ true → DiffersAt t (without_row t table k) k
differs_in t ZoneTable k s e = differs (beside_taken Zone k t.zones (s ZoneTable)) refl refl refl refl refl refl refl refl
differs_in t CalendarTable k s e = differs refl (beside_taken Calendar k t.calendars (s CalendarTable)) refl refl refl refl refl refl refl
differs_in t WorkTable k s e = differs refl refl (beside_taken Work k t.works (s WorkTable)) refl refl refl refl refl refl
differs_in t BreakTable k s e = differs refl refl refl (beside_taken Break k t.breaks (s BreakTable)) refl refl refl refl refl
differs_in t DayTable k s e = differs refl refl refl refl (beside_taken Day k t.days (s DayTable)) refl refl refl refl
differs_in t OffTable k s e = differs refl refl refl refl refl (beside_taken Off k t.offs (s OffTable)) refl refl refl
differs_in t ResourceTable k s e = differs refl refl refl refl refl refl (beside_taken Resource k t.resources (s ResourceTable)) refl refl
differs_in t MemberTable k s e = differs refl refl refl refl refl refl refl (beside_taken Member k t.members (s MemberTable)) refl
differs_in t table k s e = absurd (false≢true e)

pub differs_without : (t : Tables) (k : Key) → KeysRise t → bears_on_room k.table ≡ true → DiffersAt t (without_key t k) k
differs_without t k s e = differs_in t k.table k s e

-- after the act that puts a row, which puts the row of its caller too and sets the counters
pub differs_with_change_put : (t : Tables) (call : Call) (row : AnyRow) → KeysRise t → bears_on_room (key_of row).table ≡ true → DiffersAt t (with_change t (change_of t call (act.Put row))) (key_of row)
unfolding with_change
differs_with_change_put t call row s e = let d = differs_put t row s e in record { zones = d.zones; calendars = d.calendars; works = d.works; breaks = d.breaks; days = d.days; offs = d.offs; resources = d.resources; members = d.members; bookings = d.bookings }

-- and after the act that takes one out
pub differs_with_change_remove : (t : Tables) (call : Call) (k : Key) → KeysRise t → bears_on_room k.table ≡ true → DiffersAt t (with_change t (change_of t call (act.Remove k))) k
unfolding with_change
differs_with_change_remove t call k s e = let d = differs_without t k s e in record { zones = d.zones; calendars = d.calendars; works = d.works; breaks = d.breaks; days = d.days; offs = d.offs; resources = d.resources; members = d.members; bookings = d.bookings }
