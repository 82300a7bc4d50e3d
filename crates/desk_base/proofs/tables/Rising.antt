-- Tables whose keys rise, as rows that rise by owner and rank.
use Rattle.std.proofs.Common.{◌≡◌, ℕ, ◌<◌, ◌≤◌, List, [], ◌∷◌, ◌⊎◌, inl, inr, refl, sym, ap, ◌∙◌, arith}
use Rattle.std.proofs.lemmas.Bool.Decides.{nat_tests}
use Rattle.std.specs.Ordering.{nat_cmp, ordering_then}
use Rattle.std.specs.List.{AllByRecursion}
use Rattle.std.specs.List.Sorted.{IsStrictlySortedBy}
use Rattle.std.specs.declared.cmp.Ordering.{Ordering}
use Rattle.std.specs.declared.cmp.Ordering.TheVariants.{Less, Equal, Greater}
use Rattle.desk_base.specs.rows.Types.{Tables, Table, Key, AnyRow, ZoneRow, CalendarRow, WorkRow, BreakRow, DayRow, OffRow, ResourceRow, HasRow, MemberRow, GroupRow, BookingRow, CallerRow}
use Rattle.desk_base.specs.declared.rows.tables.Table.TheVariants.{Zone as ZoneTable, Calendar as CalendarTable, Work as WorkTable, Break as BreakTable, Day as DayTable, Off as OffTable, Resource as ResourceTable, HasRole as HasRoleTable, HasCharacteristic as HasCharacteristicTable, HasTerritory as HasTerritoryTable, Member as MemberTable, Group as GroupTable, Booking as BookingTable, Caller as CallerTable}
use Rattle.desk_base.specs.declared.rows.tables.AnyRow.TheVariants.{Zone, Calendar, Work, Break, Day, Off, Resource, HasRole, HasCharacteristic, HasTerritory, Member, Group, Booking, Caller}
use Rattle.desk_base.specs.rows.Keys.{key_cmp, table_number}
use Rattle.desk_base.specs.rows.Rows.{key_of}
use Rattle.desk_base.specs.rows.Lookups.{keys_by, KeysRise}
use Rattle.desk_base.specs.rows.Ranges.{Rise, IsUnder}

not_less : (n : ℕ) → nat_cmp n n ≡ Equal
not_less n = grind (arith, nat_tests)

under_step : (r : Ordering) (s : Ordering) (a b c d : ℕ) → nat_cmp a b ≡ r → nat_cmp c d ≡ s → (u : Ordering) → ordering_then r (ordering_then s u) ≡ Less → (a < b) ⊎ ((a ≡ b) × (c ≤ d))
under_step Less s a b c d e f u h = inl (grind (arith, nat_tests))
under_step Equal Less a b c d e f u h = inr (grind (arith, nat_tests), grind (arith, nat_tests))
under_step Equal Equal a b c d e f u h = inr (grind (arith, nat_tests), grind (arith, nat_tests))
under_step Equal Greater a b c d e f u h = cc
under_step Greater s a b c d e f u h = cc

under_key : (x y : Key) → x.table ≡ y.table → key_cmp x y ≡ Less → (x.a < y.a) ⊎ ((x.a ≡ y.a) × (x.b ≤ y.b))
under_key x y e h =
    let n : nat_cmp (table_number x.table) (table_number y.table) ≡ Equal = ap (λ t. nat_cmp (table_number x.table) (table_number t)) (sym e) ∙ not_less (table_number x.table) in
    under_step (nat_cmp x.a y.a) (nat_cmp x.b y.b) x.a y.a x.b y.b refl refl (nat_cmp x.c y.c)
    (sym (ap (λ o. ordering_then o (ordering_then (nat_cmp x.a y.a) (ordering_then (nat_cmp x.b y.b) (nat_cmp x.c y.c)))) n) ∙ h)

module _ {R : Type 0} (any : R → AnyRow) (owner rank : R → ℕ) (table : Table) (in_table : (x : R) → (key_of (any x)).table ≡ table) (first : (x : R) → (key_of (any x)).a ≡ owner x) (second : (x : R) → (key_of (any x)).b ≡ rank x) where
  under_row : (x y : R) → key_cmp (key_of (any x)) (key_of (any y)) ≡ Less → IsUnder owner rank x y
  under_row x y h = elim (under_key (key_of (any x)) (key_of (any y)) (in_table x ∙ sym (in_table y)) h) [
    | inl l ↦ inl (omega (arith, first x, first y))
    | inr (e, l) ↦ inr (omega (arith, first x, first y), omega (arith, second x, second y))
  ]

  all_under : (x : R) (ys : List R) → AllByRecursion (λ k. key_cmp (key_of (any x)) k ≡ Less) (keys_by any ys) → AllByRecursion (IsUnder owner rank x) ys
  all_under x [] h = tt
  all_under x (y ∷ ys) h = (under_row x y h.0, all_under x ys h.1)

  rise_from : (xs : List R) → IsStrictlySortedBy key_cmp (keys_by any xs) → Rise owner rank xs
  unfolding IsStrictlySortedBy Rise
  rise_from [] h = tt
  rise_from (x ∷ xs) h = (all_under x xs h.0, rise_from xs h.1)

pub zones_rise : (t : Tables) → KeysRise t → Rise (λ (x : ZoneRow). x.id) (λ x. 0) t.zones
zones_rise t h = rise_from Zone (λ x. x.id) (λ x. 0) ZoneTable (λ x. refl) (λ x. refl) (λ x. refl) t.zones (h ZoneTable)

pub calendars_rise : (t : Tables) → KeysRise t → Rise (λ (x : CalendarRow). x.id) (λ x. 0) t.calendars
calendars_rise t h = rise_from Calendar (λ x. x.id) (λ x. 0) CalendarTable (λ x. refl) (λ x. refl) (λ x. refl) t.calendars (h CalendarTable)

pub works_rise : (t : Tables) → KeysRise t → Rise (λ (x : WorkRow). x.calendar) (λ x. x.weekday) t.works
works_rise t h = rise_from Work (λ x. x.calendar) (λ x. x.weekday) WorkTable (λ x. refl) (λ x. refl) (λ x. refl) t.works (h WorkTable)

pub breaks_rise : (t : Tables) → KeysRise t → Rise (λ (x : BreakRow). x.calendar) (λ x. x.weekday) t.breaks
breaks_rise t h = rise_from Break (λ x. x.calendar) (λ x. x.weekday) BreakTable (λ x. refl) (λ x. refl) (λ x. refl) t.breaks (h BreakTable)

pub days_rise : (t : Tables) → KeysRise t → Rise (λ (x : DayRow). x.calendar) (λ x. x.day) t.days
days_rise t h = rise_from Day (λ x. x.calendar) (λ x. x.day) DayTable (λ x. refl) (λ x. refl) (λ x. refl) t.days (h DayTable)

pub offs_rise : (t : Tables) → KeysRise t → Rise (λ (x : OffRow). x.resource) (λ x. x.from) t.offs
offs_rise t h = rise_from Off (λ x. x.resource) (λ x. x.from) OffTable (λ x. refl) (λ x. refl) (λ x. refl) t.offs (h OffTable)

pub resources_rise : (t : Tables) → KeysRise t → Rise (λ (x : ResourceRow). x.id) (λ x. 0) t.resources
resources_rise t h = rise_from Resource (λ x. x.id) (λ x. 0) ResourceTable (λ x. refl) (λ x. refl) (λ x. refl) t.resources (h ResourceTable)

pub has_roles_rise : (t : Tables) → KeysRise t → Rise (λ (x : HasRow). x.resource) (λ x. x.what) t.has_roles
has_roles_rise t h = rise_from HasRole (λ x. x.resource) (λ x. x.what) HasRoleTable (λ x. refl) (λ x. refl) (λ x. refl) t.has_roles (h HasRoleTable)

pub has_characteristics_rise : (t : Tables) → KeysRise t → Rise (λ (x : HasRow). x.resource) (λ x. x.what) t.has_characteristics
has_characteristics_rise t h = rise_from HasCharacteristic (λ x. x.resource) (λ x. x.what) HasCharacteristicTable (λ x. refl) (λ x. refl) (λ x. refl) t.has_characteristics (h HasCharacteristicTable)

pub has_territories_rise : (t : Tables) → KeysRise t → Rise (λ (x : HasRow). x.resource) (λ x. x.what) t.has_territories
has_territories_rise t h = rise_from HasTerritory (λ x. x.resource) (λ x. x.what) HasTerritoryTable (λ x. refl) (λ x. refl) (λ x. refl) t.has_territories (h HasTerritoryTable)

pub members_rise : (t : Tables) → KeysRise t → Rise (λ (x : MemberRow). x.group) (λ x. x.member) t.members
members_rise t h = rise_from Member (λ x. x.group) (λ x. x.member) MemberTable (λ x. refl) (λ x. refl) (λ x. refl) t.members (h MemberTable)

pub groups_rise : (t : Tables) → KeysRise t → Rise (λ (x : GroupRow). x.id) (λ x. 0) t.groups
groups_rise t h = rise_from Group (λ x. x.id) (λ x. 0) GroupTable (λ x. refl) (λ x. refl) (λ x. refl) t.groups (h GroupTable)

pub bookings_rise : (t : Tables) → KeysRise t → Rise (λ (x : BookingRow). x.id) (λ x. 0) t.bookings
bookings_rise t h = rise_from Booking (λ x. x.id) (λ x. 0) BookingTable (λ x. refl) (λ x. refl) (λ x. refl) t.bookings (h BookingTable)

pub callers_rise : (t : Tables) → KeysRise t → Rise (λ (x : CallerRow). x.caller) (λ x. 0) t.callers
callers_rise t h = rise_from Caller (λ x. x.caller) (λ x. 0) CallerTable (λ x. refl) (λ x. refl) (λ x. refl) t.callers (h CallerTable)
