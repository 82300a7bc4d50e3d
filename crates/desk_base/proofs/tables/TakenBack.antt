-- A row that was put is taken back by what stood under its key, and the tables are as they were.
use Rattle.std.proofs.Common.{◌≡◌, ℕ, zero, suc, ◌<◌, ◌||◌, length, take, get_or, arith, Bool, true, false, cond, List, [], ◌∷◌, ◌++◌, map, Option, Some, None, ◌⊎◌, inl, inr, refl, sym, ap, ◌∙◌, subst}
use Rattle.std.proofs.lemmas.Bool.{false≢true}
use Rattle.std.proofs.lemmas.Cmp.{tied_itself}
use Rattle.std.specs.Prelude.{find, is_none, is_some}
use Rattle.std.specs.Option.{option_map_or}
use Rattle.std.specs.List.{list_any}
use Rattle.std.specs.List.Sorted.{IsStrictlySortedBy}
use Rattle.std.specs.Ordering.{is_lt, is_eq, ordering_reverse}
use Rattle.std.specs.declared.cmp.Ordering.{Ordering}
use Rattle.std.specs.declared.cmp.Ordering.TheVariants.{Less, Equal, Greater}
use Rattle.desk_base.specs.rows.Types.{Tables, Key, AnyRow}
use Rattle.desk_base.specs.declared.changes.formers.Former.{Former}
use Rattle.desk_base.specs.declared.changes.formers.Former.TheVariants.{Row, Nothing}
use Rattle.desk_base.specs.declared.rows.tables.Table.TheVariants.{Zone as ZoneTable, Calendar as CalendarTable, Work as WorkTable, Break as BreakTable, Day as DayTable, Off as OffTable, Unit as UnitTable, Site as SiteTable, Role as RoleTable, Characteristic as CharacteristicTable, Territory as TerritoryTable, Resource as ResourceTable, HasRole as HasRoleTable, HasCharacteristic as HasCharacteristicTable, HasTerritory as HasTerritoryTable, Member as MemberTable, Group as GroupTable, Booking as BookingTable, Caller as CallerTable}
use Rattle.desk_base.specs.declared.rows.tables.AnyRow.TheVariants.{Zone, Calendar, Work, Break, Day, Off, Unit, Site, Role, Characteristic, Territory, Resource, HasRole, HasCharacteristic, HasTerritory, Member, Group, Booking, Caller}
use Rattle.desk_base.specs.rows.Keys.{key_cmp}
use Rattle.desk_base.specs.rows.Rows.{key_of, keys_in, rows_in}
use Rattle.desk_base.specs.asked.Refusing.{is_key, is_there}
use Rattle.desk_base.specs.changes.Changes.{is_below, rows_below, rows_above, with_one, without_one, with_row}
use Rattle.desk_base.specs.rows.Lookups.{KeysRise, keys_by, StandsAt, BelongsAt}
use Rattle.desk_base.specs.changes.Tried.{with_counters}
use Rattle.desk_base.specs.changes.Formers.{former_in, former_at, put_back, taken_back, HasPlace, HavePlaces}
use Rattle.desk_base.proofs.lists.Members.{IsIn, all_at, in_mapped, in-filter}
use Rattle.desk_base.proofs.lists.Tests.{list_any_from}
use Rattle.desk_base.proofs.tables.Sounds.{key_total}
use Rattle.desk_base.proofs.tables.KeyOrder.{same_key, is_key-same, is_key-itself}
use Rattle.desk_base.proofs.tables.KeyParts.{less_back, greater_back, filter_none, filter_all, mid-below, mid-above}
use Rattle.desk_base.proofs.tables.WithOne.{is_less}
use Rattle.desk_base.proofs.tables.KeyRises.{rise-with_row, rise-without_key}
use Rattle.desk_base.proofs.tables.RowPuts.{row_is_there}

-- ---- rows of any tables

none_there : (k : Key) (rows : List AnyRow) → find (λ row. is_key k (key_of row)) rows ≡ None → list_any (is_key k) (map key_of rows) ≡ true → ⊥
none_there k [] e h = false≢true h
none_there k (row ∷ rows) e h = step (is_key k (key_of row)) e h (none_there k rows)
  where
    step : (b : Bool) → cond b (Some row) (find (λ r. is_key k (key_of r)) rows) ≡ None → (b || list_any (is_key k) (map key_of rows)) ≡ true
        → (find (λ r. is_key k (key_of r)) rows ≡ None → list_any (is_key k) (map key_of rows) ≡ true → ⊥) → ⊥
    step true f g more = false≢true (ap is_none f)
    step false f g more = more f g

none_found_among : (k : Key) (rows : List AnyRow) → list_any (is_key k) (map key_of rows) ≡ false → find (λ row. is_key k (key_of row)) rows ≡ None
none_found_among k [] h = refl
none_found_among k (row ∷ rows) h = step (is_key k (key_of row)) h (none_found_among k rows)
  where
    step : (b : Bool) → (b || list_any (is_key k) (map key_of rows)) ≡ false → (list_any (is_key k) (map key_of rows) ≡ false → find (λ r. is_key k (key_of r)) rows ≡ None)
        → cond b (Some row) (find (λ r. is_key k (key_of r)) rows) ≡ None
    step true h more = absurd (false≢true (sym h))
    step false h more = more h

-- ---- one list of rows

module _ {R : Type 0} (any : R → AnyRow) where
  -- the row of a key among these, as one of any table
  abbrev found : Key → List R → Option AnyRow
  found k rows = find (λ row. is_key k (key_of row)) (map any rows)

  abbrev below : Key → List R → List R
  below k rows = rows_below (λ y. key_of (any y)) k rows

  abbrev above : Key → List R → List R
  above k rows = rows_above (λ y. key_of (any y)) k rows

  -- ---- rows that rise are those below a key, the row of it and those above it

  -- a row of the key stands between the lower rows and the higher ones, or none does
  abbrev Cut : Key → List R → List R → List R → Type 0
  Cut k rows low high =
      ((y : R) × (found k rows ≡ Some (any y)) × (key_of (any y) ≡ k) × (rows ≡ low ++ y ∷ high)) ⊎ ((found k rows ≡ None) × (rows ≡ low ++ high))

  none_found : (k : Key) (rows : List R) → ((z : R) → IsIn z rows → key_cmp k (key_of (any z)) ≡ Less) → found k rows ≡ None
  none_found k [] h = refl
  none_found k (y ∷ rows) h = ap (λ b. cond b (Some (any y)) (found k rows)) (ap is_eq (h y (inl refl))) ∙ none_found k rows (λ z i. h z (inr i))

  none_below : (k : Key) (rows : List R) → ((z : R) → IsIn z rows → key_cmp k (key_of (any z)) ≡ Less) → below k rows ≡ []
  none_below k rows h = filter_none (λ y. is_below (key_of (any y)) k) rows (λ z i. ap is_lt (less_back k (key_of (any z)) (h z i)))

  all_above : (k : Key) (rows : List R) → ((z : R) → IsIn z rows → key_cmp k (key_of (any z)) ≡ Less) → above k rows ≡ rows
  all_above k rows h = filter_all (λ y. is_below k (key_of (any y))) rows (λ z i. ap is_lt (h z i))

  cut : (k : Key) (rows : List R) → IsStrictlySortedBy key_cmp (keys_by any rows) → Cut k rows (below k rows) (above k rows)
  unfolding IsStrictlySortedBy
  cut k [] s = inr (refl, refl)
  cut k (y ∷ rows) s = step (key_cmp k (key_of (any y))) refl (cut k rows s.1)
    where
      later : (z : R) → IsIn z rows → key_cmp (key_of (any y)) (key_of (any z)) ≡ Less
      later z i = all_at (λ w. key_cmp (key_of (any y)) w ≡ Less) (keys_by any rows) (key_of (any z)) s.0 (in_mapped key_of (any z) (map any rows) (in_mapped any z rows i))

      low_is : (r : Ordering) → key_cmp (key_of (any y)) k ≡ r → below k (y ∷ rows) ≡ cond (is_lt r) (y ∷ below k rows) (below k rows)
      low_is r e = ap (λ q. cond (is_lt q) (y ∷ below k rows) (below k rows)) e

      high_is : (r : Ordering) → key_cmp k (key_of (any y)) ≡ r → above k (y ∷ rows) ≡ cond (is_lt r) (y ∷ above k rows) (above k rows)
      high_is r e = ap (λ q. cond (is_lt q) (y ∷ above k rows) (above k rows)) e

      found_is : (r : Ordering) → key_cmp k (key_of (any y)) ≡ r → found k (y ∷ rows) ≡ cond (is_eq r) (Some (any y)) (found k rows)
      found_is r e = ap (λ q. cond (is_eq q) (Some (any y)) (found k rows)) e

      joined : (low high : List R) → below k (y ∷ rows) ≡ low → above k (y ∷ rows) ≡ high → Cut k (y ∷ rows) low high → Cut k (y ∷ rows) (below k (y ∷ rows)) (above k (y ∷ rows))
      joined low high e f c = subst (λ l. Cut k (y ∷ rows) l (above k (y ∷ rows))) (sym e) (subst (λ l. Cut k (y ∷ rows) low l) (sym f) c)

      over : (low high : List R) → found k (y ∷ rows) ≡ found k rows → Cut k rows low high → Cut k (y ∷ rows) (y ∷ low) high
      over low high e (inl c) = inl (c.0, e ∙ c.1, c.2, ap (λ l. y ∷ l) c.3)
      over low high e (inr c) = inr (e ∙ c.0, ap (λ l. y ∷ l) c.1)

      step : (r : Ordering) → key_cmp k (key_of (any y)) ≡ r → Cut k rows (below k rows) (above k rows) → Cut k (y ∷ rows) (below k (y ∷ rows)) (above k (y ∷ rows))
      step Less e c =
          let h : ((z : R) → IsIn z (y ∷ rows) → key_cmp k (key_of (any z)) ≡ Less) =
          λ z i. elim i [ inl f ↦ ap (λ w. key_cmp k (key_of (any w))) f ∙ e | inr j ↦ key_total.trans k (key_of (any y)) (key_of (any z)) e (later z j) ] in
          joined [] (y ∷ rows) (none_below k (y ∷ rows) h) (all_above k (y ∷ rows) h) (inr (none_found k (y ∷ rows) h, refl))
      step Equal e c =
          let h : ((z : R) → IsIn z rows → key_cmp k (key_of (any z)) ≡ Less) = λ z i. key_total.congr k (key_of (any y)) (key_of (any z)) e ∙ later z i in
          joined [] rows (low_is Equal (key_total.antisymm (key_of (any y)) k ∙ ap ordering_reverse e) ∙ none_below k rows h) (high_is Equal e ∙ all_above k rows h)
          (inl (y, found_is Equal e, sym (same_key k (key_of (any y)) e), refl))
      step Greater e c = joined (y ∷ below k rows) (above k rows) (low_is Less (greater_back k (key_of (any y)) e)) (high_is Greater e) (over (below k rows) (above k rows) (found_is Greater e) c)

  -- ---- what a search for a key finds

  mid_row : (y d : R) (rows high : List R) (at : ℕ) → at < length rows → get_or (take at rows ++ y ∷ high) at d ≡ y
  mid_row y d [] high at b = absurd (omega arith)
  mid_row y d (r ∷ rows) high zero b = refl
  mid_row y d (r ∷ rows) high (suc at) b = mid_row y d rows high at (omega arith)

  pub former_there : (k : Key) (rows : List R) (at : ℕ) (d : R) → IsStrictlySortedBy key_cmp (keys_by any rows) → StandsAt any k rows at → former_in k (map any rows) ≡ Row (any (get_or rows at d))
  former_there k rows at d s h = ap (λ o. option_map_or Row o (Nothing k)) (step (cut k rows s))
    where
      step : Cut k rows (below k rows) (above k rows) → found k rows ≡ Some (any (get_or rows at d))
      step (inl c) =
          let split : rows ≡ take at rows ++ c.0 ∷ above k rows = c.3 ∙ ap (λ l. l ++ c.0 ∷ above k rows) (sym h.before) in
          c.1 ∙ ap (λ y. Some (any y)) (sym (ap (λ l. get_or l at d) split ∙ mid_row c.0 d rows (above k rows) at h.in_range))
      step (inr c) = absurd (none_there k (map any rows) c.0 h.there)

  pub former_absent : (k : Key) (rows : List R) (at : ℕ) → BelongsAt any k rows at → former_in k (map any rows) ≡ Nothing k
  former_absent k rows at h = ap (λ o. option_map_or Row o (Nothing k)) (none_found_among k (map any rows) h.absent)

  -- ---- a row more leaves those below its key and those above it

  low_rows : (k : Key) (rows : List R) (y : R) → IsIn y (below k rows) → key_cmp (key_of (any y)) k ≡ Less
  low_rows k rows y i = is_less (key_cmp (key_of (any y)) k) (in-filter (λ z. is_below (key_of (any z)) k) y rows i).1

  high_rows : (k : Key) (rows : List R) (y : R) → IsIn y (above k rows) → key_cmp (key_of (any y)) k ≡ Greater
  high_rows k rows y i = less_back k (key_of (any y)) (is_less (key_cmp k (key_of (any y))) (in-filter (λ z. is_below k (key_of (any z))) y rows i).1)

  below-with_one : (x : R) (rows : List R) → below (key_of (any x)) (with_one (λ y. key_of (any y)) x rows) ≡ below (key_of (any x)) rows
  unfolding with_one
  below-with_one x rows =
      let k : Key = key_of (any x) in
      mid-below any k (below k rows) x (above k rows) (low_rows k rows) (tied_itself key_total k) (high_rows k rows)

  above-with_one : (x : R) (rows : List R) → above (key_of (any x)) (with_one (λ y. key_of (any y)) x rows) ≡ above (key_of (any x)) rows
  unfolding with_one
  above-with_one x rows =
      let k : Key = key_of (any x) in
      mid-above any k (below k rows) x (above k rows) (low_rows k rows) (tied_itself key_total k) (high_rows k rows)

  -- ---- and is taken back

  back_over : (x y : R) (rows : List R) → key_of (any y) ≡ key_of (any x) → rows ≡ below (key_of (any x)) rows ++ y ∷ above (key_of (any x)) rows
      → with_one (λ z. key_of (any z)) y (with_one (λ z. key_of (any z)) x rows) ≡ rows
  unfolding with_one
  back_over x y rows e c =
      let more : List R = with_one (λ z. key_of (any z)) x rows in
      ap (λ k. below k more ++ y ∷ above k more) e
      ∙ ap (λ l. l ++ y ∷ above (key_of (any x)) more) (below-with_one x rows)
      ∙ ap (λ l. below (key_of (any x)) rows ++ y ∷ l) (above-with_one x rows)
      ∙ sym c

  back_out : (x : R) (rows : List R) → rows ≡ below (key_of (any x)) rows ++ above (key_of (any x)) rows
      → without_one (λ z. key_of (any z)) (key_of (any x)) (with_one (λ z. key_of (any z)) x rows) ≡ rows
  unfolding without_one
  back_out x rows c =
      let more : List R = with_one (λ z. key_of (any z)) x rows in
      ap (λ l. l ++ above (key_of (any x)) more) (below-with_one x rows)
      ∙ ap (λ l. below (key_of (any x)) rows ++ l) (above-with_one x rows)
      ∙ sym c

  -- in tables that have the rows as one of their lists
  back_one : (tables : List R → Tables) (x : R) (rows : List R) → IsStrictlySortedBy key_cmp (keys_by any rows)
      → ((y : R) (l : List R) → put_back (tables l) (Row (any y)) ≡ tables (with_one (λ z. key_of (any z)) y l))
      → ((l : List R) → put_back (tables l) (Nothing (key_of (any x))) ≡ tables (without_one (λ z. key_of (any z)) (key_of (any x)) l))
      → put_back (tables (with_one (λ z. key_of (any z)) x rows)) (former_in (key_of (any x)) (map any rows)) ≡ tables rows
  back_one tables x rows s over out =
      let k : Key = key_of (any x) in
      let more : List R = with_one (λ z. key_of (any z)) x rows in
      elim (cut k rows s) [
        | inl c ↦ ap (λ o. put_back (tables more) (option_map_or Row o (Nothing k))) c.1 ∙ over c.0 more ∙ ap tables (back_over x c.0 rows c.2 c.3)
        | inr c ↦ ap (λ o. put_back (tables more) (option_map_or Row o (Nothing k))) c.0 ∙ out more ∙ ap tables (back_out x rows c.1)
      ]

-- ---- one row

-- the tables are as they were
pub back : (t : Tables) (row : AnyRow) → KeysRise t → put_back (with_row t row) (former_at t (key_of row)) ≡ t
back t (Zone x) h = back_one Zone (λ l. record t { zones = l }) x t.zones (h ZoneTable) (λ y l. refl) (λ l. refl)
back t (Calendar x) h = back_one Calendar (λ l. record t { calendars = l }) x t.calendars (h CalendarTable) (λ y l. refl) (λ l. refl)
back t (Work x) h = back_one Work (λ l. record t { works = l }) x t.works (h WorkTable) (λ y l. refl) (λ l. refl)
back t (Break x) h = back_one Break (λ l. record t { breaks = l }) x t.breaks (h BreakTable) (λ y l. refl) (λ l. refl)
back t (Day x) h = back_one Day (λ l. record t { days = l }) x t.days (h DayTable) (λ y l. refl) (λ l. refl)
back t (Off x) h = back_one Off (λ l. record t { offs = l }) x t.offs (h OffTable) (λ y l. refl) (λ l. refl)
back t (Unit x) h = back_one Unit (λ l. record t { units = l }) x t.units (h UnitTable) (λ y l. refl) (λ l. refl)
back t (Site x) h = back_one Site (λ l. record t { sites = l }) x t.sites (h SiteTable) (λ y l. refl) (λ l. refl)
back t (Role x) h = back_one Role (λ l. record t { roles = l }) x t.roles (h RoleTable) (λ y l. refl) (λ l. refl)
back t (Characteristic x) h = back_one Characteristic (λ l. record t { characteristics = l }) x t.characteristics (h CharacteristicTable) (λ y l. refl) (λ l. refl)
back t (Territory x) h = back_one Territory (λ l. record t { territories = l }) x t.territories (h TerritoryTable) (λ y l. refl) (λ l. refl)
back t (Resource x) h = back_one Resource (λ l. record t { resources = l }) x t.resources (h ResourceTable) (λ y l. refl) (λ l. refl)
back t (HasRole x) h = back_one HasRole (λ l. record t { has_roles = l }) x t.has_roles (h HasRoleTable) (λ y l. refl) (λ l. refl)
back t (HasCharacteristic x) h = back_one HasCharacteristic (λ l. record t { has_characteristics = l }) x t.has_characteristics (h HasCharacteristicTable) (λ y l. refl) (λ l. refl)
back t (HasTerritory x) h = back_one HasTerritory (λ l. record t { has_territories = l }) x t.has_territories (h HasTerritoryTable) (λ y l. refl) (λ l. refl)
back t (Member x) h = back_one Member (λ l. record t { members = l }) x t.members (h MemberTable) (λ y l. refl) (λ l. refl)
back t (Group x) h = back_one Group (λ l. record t { groups = l }) x t.groups (h GroupTable) (λ y l. refl) (λ l. refl)
back t (Booking x) h = back_one Booking (λ l. record t { bookings = l }) x t.bookings (h BookingTable) (λ y l. refl) (λ l. refl)
back t (Caller x) h = back_one Caller (λ l. record t { callers = l }) x t.callers (h CallerTable) (λ y l. refl) (λ l. refl)

-- a row stands under the key of one that was put
put_is_there : (t : Tables) (row : AnyRow) → is_there (with_row t row) (key_of row) ≡ true
put_is_there t row =
    list_any_from (is_key (key_of row)) (keys_in (with_row t row) (key_of row).table) (key_of row) (in_mapped key_of row (rows_in (with_row t row) (key_of row).table) (row_is_there t row)) (is_key-itself (key_of row))

-- what is found passes
found_passes : (p : AnyRow → Bool) (rows : List AnyRow) (row : AnyRow) → find p rows ≡ Some row → p row ≡ true
found_passes p [] row e = absurd (false≢true (ap is_some e))
found_passes p (y ∷ rows) row e = step (p y) refl e (found_passes p rows row)
  where
    step : (b : Bool) → p y ≡ b → cond b (Some y) (find p rows) ≡ Some row → (find p rows ≡ Some row → p row ≡ true) → p row ≡ true
    step true f g more = subst (λ z. p z ≡ true) (ap (λ o. option_map_or (λ z. z) o y) g) f
    step false f g more = more g

place_of : (t : Tables) (k : Key) (o : Option AnyRow) → is_there t k ≡ true → ((row : AnyRow) → o ≡ Some row → is_key k (key_of row) ≡ true) → HasPlace t (option_map_or Row o (Nothing k))
place_of t k None there h = tt
place_of t k (Some row) there h = subst (λ j. is_there t j ≡ true) (is_key-same k (key_of row) (h row refl)) there

-- and what stood there has a place
pub has_place : (t : Tables) (row : AnyRow) → HasPlace (with_row t row) (former_at t (key_of row))
has_place t row =
    let k : Key = key_of row in
    let rows : List AnyRow = rows_in t k.table in
    place_of (with_row t row) k (find (λ r. is_key k (key_of r)) rows) (put_is_there t row) (found_passes (λ r. is_key k (key_of r)) rows)

-- ---- many rows

pub taken_back-append : (t : Tables) (formers : List Former) (former : Former) → taken_back t (formers ++ former ∷ []) ≡ taken_back (put_back t former) formers
taken_back-append t [] former = refl
taken_back-append t (f ∷ formers) former = ap (λ u. put_back u f) (taken_back-append t formers former)

pub have_places-append : (t : Tables) (formers : List Former) (former : Former) → HasPlace t former → HavePlaces (put_back t former) formers → HavePlaces t (formers ++ former ∷ [])
have_places-append t [] former p h = (tt, p)
have_places-append t (f ∷ formers) former p h = (have_places-append t formers former p h.0, subst (λ u. HasPlace u f) (sym (taken_back-append t formers former)) h.1)

pub last_place : (t : Tables) (formers : List Former) (former : Former) → HavePlaces t (formers ++ former ∷ []) → HasPlace t former × HavePlaces (put_back t former) formers
last_place t [] former h = (h.1, tt)
last_place t (f ∷ formers) former h =
    let r = last_place t formers former h.0 in
    (r.0, (r.1, subst (λ u. HasPlace u f) (taken_back-append t formers former) h.1))

pub rise-put_back : (t : Tables) (former : Former) → KeysRise t → KeysRise (put_back t former)
rise-put_back t (Row row) h = rise-with_row t row h
rise-put_back t (Nothing k) h = rise-without_key t k h

-- ---- a row that is put and noted, and a row that goes back

pub taken_back-put : (t before more : Tables) (row : AnyRow) (formers : List Former) (former : Former) → KeysRise t → more ≡ with_row t row → former ≡ former_at t (key_of row) → taken_back t formers ≡ before → taken_back more (formers ++ former ∷ []) ≡ before
taken_back-put t before more row formers former rise e f same =
    taken_back-append more formers former ∙ ap (λ u. taken_back u formers) (ap (λ u. put_back u former) e ∙ ap (put_back (with_row t row)) f ∙ back t row rise) ∙ same

pub have_places-put : (t more : Tables) (row : AnyRow) (formers : List Former) (former : Former) → KeysRise t → more ≡ with_row t row → former ≡ former_at t (key_of row) → HavePlaces t formers → HavePlaces more (formers ++ former ∷ [])
have_places-put t more row formers former rise e f h =
    have_places-append more formers former
    (subst (λ u. HasPlace u former) (sym e) (subst (HasPlace (with_row t row)) (sym f) (has_place t row)))
    (subst (λ u. HavePlaces u formers) (sym (ap (λ u. put_back u former) e ∙ ap (put_back (with_row t row)) f ∙ back t row rise)) h)

pub taken_back-last : (t fewer : Tables) (all formers : List Former) (former : Former) → all ≡ formers ++ former ∷ [] → fewer ≡ put_back t former → taken_back fewer formers ≡ taken_back t all
taken_back-last t fewer all formers former e f = ap (λ u. taken_back u formers) f ∙ sym (taken_back-append t formers former) ∙ ap (taken_back t) (sym e)

-- ---- counters

-- counters that are set and set back
pub counters_back : (t changed : Tables) (a b revision last : ℕ) → changed ≡ with_counters t a b → revision ≡ t.revision → last ≡ t.last_booking → with_counters changed revision last ≡ t
counters_back t changed a b revision last e f g = ap (λ u. with_counters u revision last) e ∙ ap (λ n. with_counters t n last) f ∙ ap (λ n. with_counters t t.revision n) g
