-- Sound tables with other bookings and counters: what stays as it was, and what keeps them sound.
use Rattle.std.proofs.Common.{◌≡◌, ℕ, ◌≤◌, Bool, true, false, not, ◌&&◌, ◌==◌, List, [], ◌∷◌, ◌++◌, map, length, ◌⊎◌, inl, inr, refl, sym, ap, ◌∙◌, subst}
use Rattle.std.proofs.lemmas.Bool.{false≢true, not-true, eq-eqb}
use Rattle.std.proofs.lemmas.List.{length-map}
use Rattle.std.proofs.lemmas.List.Folds.{list_all-append}
use Rattle.std.specs.Prelude.{Contains, flat_map, option_to_list}
use Rattle.std.specs.List.{list_all, list_any}
use Rattle.std.specs.List.Sorted.{IsStrictlySortedBy}
use Rattle.desk_base.specs.rows.Types.{Tables, Table, Key, AnyRow, Leaf, GroupRow, BookingRow}
use Rattle.desk_base.specs.declared.rows.tables.Table.TheVariants.{Calendar as CalendarTable, Unit as UnitTable, Site as SiteTable, Role as RoleTable, Characteristic as CharacteristicTable, Territory as TerritoryTable, Resource as ResourceTable, Booking as BookingTable}
use Rattle.desk_base.specs.declared.rows.tables.AnyRow.TheVariants.{Zone, Resource, Group, Booking}
use Rattle.desk_base.specs.rules.TableLimits.{limit_of}
use Rattle.desk_base.specs.rows.Keys.{key_cmp, id_key}
use Rattle.desk_base.specs.rows.Rows.{rows_in, key_of, keys_in, leaf_citations, citations_of}
use Rattle.desk_base.specs.rows.Lookups.{keys_by}
use Rattle.desk_base.specs.meaning.Capacity.{capacity, calendar_capacity}
use Rattle.desk_base.specs.meaning.Load.{Fits, ask_of}
use Rattle.desk_base.specs.rules.Sound.{IsSound, IsBooked, keeps_fields, bookings_of, is_counted}
use Rattle.desk_base.proofs.lists.Members.{IsIn, in-map, in-flat_map}
use Rattle.desk_base.proofs.lists.Tests.{and_both, list_all_at, list_all_from, list_any_from}
use Rattle.desk_base.proofs.tables.Sounds.{keys_rise, few_keys, cites_there, sound_by_table}
use Rattle.desk_base.proofs.puts.RoomPuts.{HaveSameRoom, Fits-same}
use Rattle.desk_base.proofs.puts.Suits.{row_keeps, row_cites}

-- ---- what no row names

-- it is the table of bookings
abbrev pub is_bookings : Table → Bool
is_bookings BookingTable = true
is_bookings _ = false

abbrev is_other : Key → Bool
is_other k = not (is_bookings k.table)

mapped : {A : Type 0} (f : A → Key) (xs : List A) → ((x : A) → is_other (f x) ≡ true) → list_all is_other (map f xs) ≡ true
mapped f xs h = list_all_from is_other (map f xs) (λ k i. let x = in-map f k xs i in ap is_other x.2 ∙ h x.0)

joined : (xs ys : List Key) → list_all is_other xs ≡ true → list_all is_other ys ≡ true → list_all is_other (xs ++ ys) ≡ true
joined xs ys e f = list_all-append is_other xs ys ∙ and_both (list_all is_other xs) (list_all is_other ys) e f

leaf_names : (l : Leaf) → list_all is_other (leaf_citations l) ≡ true
leaf_names l =
    let roles = map (id_key RoleTable) l.roles in
    let characteristics = map (λ (c : ℕ × ℕ). id_key CharacteristicTable c.0) l.characteristics in
    let territories = map (id_key TerritoryTable) l.territories in
    let units = map (id_key UnitTable) l.units in
    let required = map (id_key ResourceTable) l.required in
    let restricted = map (id_key ResourceTable) l.restricted in
    joined (roles ++ characteristics ++ territories ++ units ++ required) restricted
    (joined (roles ++ characteristics ++ territories ++ units) required
    (joined (roles ++ characteristics ++ territories) units
    (joined (roles ++ characteristics) territories
    (joined roles characteristics (mapped (id_key RoleTable) l.roles (λ x. refl)) (mapped (λ (c : ℕ × ℕ). id_key CharacteristicTable c.0) l.characteristics (λ x. refl)))
    (mapped (id_key TerritoryTable) l.territories (λ x. refl)))
    (mapped (id_key UnitTable) l.units (λ x. refl)))
    (mapped (id_key ResourceTable) l.required (λ x. refl)))
    (mapped (id_key ResourceTable) l.restricted (λ x. refl))

names_others : (row : AnyRow) → list_all is_other (citations_of row) ≡ true
names_others (Resource x) = joined (map (id_key CalendarTable) (option_to_list x.calendar)) (id_key UnitTable x.unit ∷ id_key SiteTable x.site ∷ []) (mapped (id_key CalendarTable) (option_to_list x.calendar) (λ c. refl)) refl
names_others (Group x) = list_all_from is_other (flat_map leaf_citations x.leaves) (λ k i. let l = in-flat_map leaf_citations k x.leaves i in list_all_at is_other (leaf_citations l.0) k (leaf_names l.0) l.2)
names_others row = refl

-- no row names a booking
pub names_no_booking : (row : AnyRow) (k : Key) → IsIn k (citations_of row) → is_bookings k.table ≡ false
names_no_booking row k i = not-true (is_bookings k.table) (list_all_at is_other (citations_of row) k (names_others row) i)

-- ---- what stays

-- the tables with these bookings and counters
abbrev pub rebooked : Tables → List BookingRow → ℕ → ℕ → Tables
rebooked t bookings revision last = record t { bookings = bookings; revision = revision; last_booking = last }

table_cases : (table : Table) → (table ≡ BookingTable) ⊎ (is_bookings table ≡ false)
table_cases BookingTable = inl refl
table_cases _ = inr refl

-- what bookings must bring that take the place of those of sound tables
pub record SuitBookings (t : Tables) (bookings : List BookingRow) : Type 0 where
  pub order : IsStrictlySortedBy key_cmp (keys_by Booking bookings)
  pub limit : length bookings ≤ limit_of BookingTable
  pub field : (b : BookingRow) → IsIn b bookings → keeps_fields t (Booking b) ≡ true
  pub citation : (b : BookingRow) (k : Key) → IsIn b bookings → IsIn k (citations_of (Booking b)) → IsIn k (keys_in t k.table)
  pub fits : Fits t (map ask_of bookings)

module _ (t : Tables) (bookings : List BookingRow) (revision last : ℕ) where
  rows_stay : (table : Table) → is_bookings table ≡ false → rows_in (rebooked t bookings revision last) table ≡ rows_in t table
  rows_stay BookingTable e = absurd (false≢true (sym e))
  rows_stay _ e = refl

  fields_stay : (row : AnyRow) → keeps_fields (rebooked t bookings revision last) row ≡ keeps_fields t row
  fields_stay (Zone x) = refl
  fields_stay _ = refl

  pub room_stays : HaveSameRoom t (rebooked t bookings revision last)
  unfolding capacity calendar_capacity
  room_stays = record { sorts = λ r. refl; members = λ g m. refl; capacities = λ r m. refl }

  -- what holds of the bookings, and of the rows of every table before, holds of the rows of every table
  by_table : (P : Table → List AnyRow → Type 0) → P BookingTable (map Booking bookings) → ((table : Table) → P table (rows_in t table)) → (table : Table) → P table (rows_in (rebooked t bookings revision last) table)
  by_table P new old table = elim (table_cases table) [
    | inl e ↦ subst (λ d. P d (rows_in (rebooked t bookings revision last) d)) (sym e) new
    | inr e ↦ subst (P table) (sym (rows_stay table e)) (old table)
  ]

  -- a row that names what was there names what is there
  still_cites : (row : AnyRow) → ((k : Key) → IsIn k (citations_of row) → IsIn k (keys_in t k.table)) → cites_there (rebooked t bookings revision last) row ≡ true
  still_cites row h =
      list_all_from (λ (c : Key). list_any (λ (k : Key). (k.a == c.a) && ((k.b == c.b) && (k.c == c.c))) (keys_in (rebooked t bookings revision last) c.table)) (citations_of row) (λ c i.
      list_any_from (λ (k : Key). (k.a == c.a) && ((k.b == c.b) && (k.c == c.c))) (keys_in (rebooked t bookings revision last) c.table) c
      (subst (λ l. IsIn c (map key_of l)) (sym (rows_stay c.table (names_no_booking row c i))) (h c i))
      (λ i. eq-eqb c.a c.a refl i && (eq-eqb c.b c.b refl i && eq-eqb c.c c.c refl i)))

  -- ---- what keeps them sound

  module _ (s : IsSound t) (fit : SuitBookings t bookings) where
    short : length (keys_by Booking bookings) ≤ limit_of BookingTable
    short = subst (λ n. n ≤ limit_of BookingTable) (sym (length-map (map Booking bookings) key_of ∙ length-map bookings Booking)) fit.limit

    new_fields : list_all (keeps_fields (rebooked t bookings revision last)) (map Booking bookings) ≡ true
    new_fields = list_all_from (keeps_fields (rebooked t bookings revision last)) (map Booking bookings) (λ x i.
        let b = in-map Booking x bookings i in
        subst (λ y. keeps_fields (rebooked t bookings revision last) y ≡ true) (sym b.2) (fields_stay (Booking b.0) ∙ fit.field b.0 b.1))

    old_fields : (table : Table) → list_all (keeps_fields (rebooked t bookings revision last)) (rows_in t table) ≡ true
    old_fields table = list_all_from (keeps_fields (rebooked t bookings revision last)) (rows_in t table) (λ x i. fields_stay x ∙ row_keeps t table x s i)

    new_cites : list_all (cites_there (rebooked t bookings revision last)) (map Booking bookings) ≡ true
    new_cites = list_all_from (cites_there (rebooked t bookings revision last)) (map Booking bookings) (λ x i.
        let b = in-map Booking x bookings i in
        subst (λ y. cites_there (rebooked t bookings revision last) y ≡ true) (sym b.2) (still_cites (Booking b.0) (λ k j. fit.citation b.0 k b.1 j)))

    old_cites : (table : Table) → list_all (cites_there (rebooked t bookings revision last)) (rows_in t table) ≡ true
    old_cites table = list_all_from (cites_there (rebooked t bookings revision last)) (rows_in t table) (λ x i. still_cites x (λ k j. row_cites t table x k s i j))

    -- sound tables are so with bookings that suit them, groups that are booked whole or not at all, and counters that hold
    pub sound_rebooked : ((g : GroupRow) → Contains t.groups g → (bookings_of (rebooked t bookings revision last) g ≡ []) ⊎ IsBooked (rebooked t bookings revision last) g) → is_counted (rebooked t bookings revision last) ≡ true → IsSound (rebooked t bookings revision last)
    sound_rebooked booked count = sound_by_table (rebooked t bookings revision last) (record {
      order = by_table (λ d rows. IsStrictlySortedBy key_cmp (map key_of rows)) fit.order (λ d. keys_rise t d s);
      limit = by_table (λ d rows. length (map key_of rows) ≤ limit_of d) short (λ d. few_keys t d s);
      field = by_table (λ d rows. list_all (keeps_fields (rebooked t bookings revision last)) rows ≡ true) new_fields old_fields;
      citation = by_table (λ d rows. list_all (cites_there (rebooked t bookings revision last)) rows ≡ true) new_cites old_cites;
      fits = Fits-same t (rebooked t bookings revision last) room_stays (map ask_of bookings) fit.fits;
      booked = booked;
      count = count;
    })
