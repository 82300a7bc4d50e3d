-- The rows of a table that name a key, found among those that belong to its number.
use Rattle.std.proofs.Common.{◌≡◌, ℕ, Bool, true, false, cond, ◌||◌, ◌==◌, List, [], ◌∷◌, ◌++◌, map, Some, None, inl, inr, refl, sym, ap, ◌∙◌}
use Rattle.std.proofs.lemmas.Bool.{false≢true, eq-eqb, or_cases}
use Rattle.std.proofs.lemmas.List.Folds.{list_any-append}
use Rattle.std.specs.Prelude.{filter, find, flat_map, option_map}
use Rattle.std.specs.List.{list_any}
use Rattle.desk_base.specs.declared.rows.tables.Tables.{Tables}
use Rattle.desk_base.specs.declared.rows.tables.Table.{Table}
use Rattle.desk_base.specs.declared.rows.tables.Key.{Key}
use Rattle.desk_base.specs.declared.rows.tables.AnyRow.{AnyRow}
use Rattle.desk_base.specs.declared.rows.calendars.WorkRow.{WorkRow}
use Rattle.desk_base.specs.declared.rows.calendars.BreakRow.{BreakRow}
use Rattle.desk_base.specs.declared.rows.calendars.DayRow.{DayRow}
use Rattle.desk_base.specs.declared.rows.calendars.OffRow.{OffRow}
use Rattle.desk_base.specs.declared.rows.resources.HasRow.{HasRow}
use Rattle.desk_base.specs.declared.rows.bookings.BookingRow.{BookingRow}
use Rattle.desk_base.specs.declared.rows.groups.Leaf.{Leaf}
use Rattle.desk_base.specs.declared.rows.tables.Table.TheVariants.{Zone as ZoneTable, Site as SiteTable, Caller as CallerTable, BookingNumbers, Calendar as CalendarTable, Work as WorkTable, Break as BreakTable, Day as DayTable, Off as OffTable, Unit as UnitTable, Role as RoleTable, Characteristic as CharacteristicTable, Territory as TerritoryTable, Resource as ResourceTable, HasRole as HasRoleTable, HasCharacteristic as HasCharacteristicTable, HasTerritory as HasTerritoryTable, Group as GroupTable, Booking as BookingTable}
use Rattle.desk_base.specs.declared.rows.tables.AnyRow.TheVariants.{Zone, Work, Break, Day, Off, Unit, Site, Role, Characteristic, Territory, HasRole, HasCharacteristic, HasTerritory, Booking, Caller}
use Rattle.desk_base.specs.rows.Keys.{table_number, id_key}
use Rattle.desk_base.specs.rows.Rows.{key_of, leaf_citations}
use Rattle.desk_base.specs.asked.Refusing.{cites, is_key}
use Rattle.desk_base.proofs.tables.KeyOrder.{is_key-same}
use Rattle.desk_change.specs.Served.{is_master}
use Rattle.desk_change.specs.Citing.{citing_in}

-- ---- lists that are joined

pub any_flat : {A B : Type 0} (p : B → Bool) (f : A → List B) (xs : List A) → list_any (λ x. list_any p (f x)) xs ≡ list_any p (flat_map f xs)
any_flat p f [] = refl
any_flat p f (x ∷ xs) = ap (λ b. list_any p (f x) || b) (any_flat p f xs) ∙ sym (list_any-append p (f x) (flat_map f xs))

any_six : {A : Type 0} (p : A → Bool) (a b c d e f : List A) → list_any p (a ++ b ++ c ++ d ++ e ++ f) ≡ (list_any p a || list_any p b || list_any p c || list_any p d || list_any p e || list_any p f)
any_six p a b c d e f =
    list_any-append p (a ++ b ++ c ++ d ++ e) f
    ∙ ap (λ u. u || list_any p f) (list_any-append p (a ++ b ++ c ++ d) e
    ∙ ap (λ u. u || list_any p e) (list_any-append p (a ++ b ++ c) d
    ∙ ap (λ u. u || list_any p d) (list_any-append p (a ++ b) c
    ∙ ap (λ u. u || list_any p c) (list_any-append p a b))))

-- a leaf lists a key in one of its lists
pub any_of_leaf : (k : Key) (l : Leaf) → list_any (is_key k) (leaf_citations l)
    ≡ (list_any (is_key k) (map (id_key RoleTable) l.roles) || list_any (is_key k) (map (λ c. id_key CharacteristicTable c.0) l.characteristics) || list_any (is_key k) (map (id_key TerritoryTable) l.territories)
    || list_any (is_key k) (map (id_key UnitTable) l.units) || list_any (is_key k) (map (id_key ResourceTable) l.required) || list_any (is_key k) (map (id_key ResourceTable) l.restricted))
any_of_leaf k l =
    any_six (is_key k) (map (id_key RoleTable) l.roles) (map (λ c. id_key CharacteristicTable c.0) l.characteristics) (map (id_key TerritoryTable) l.territories)
    (map (id_key UnitTable) l.units) (map (id_key ResourceTable) l.required) (map (id_key ResourceTable) l.restricted)

-- ---- a search among the rows that may pass

narrow : {R : Type 0} (any : R → AnyRow) (c : AnyRow → Bool) (p : R → Bool) → ((x : R) → c (any x) ≡ true → p x ≡ true) → (xs : List R) → find c (map any (filter p xs)) ≡ find c (map any xs)
narrow any c p h [] = refl
narrow any c p h (x ∷ xs) = step (p x) refl (narrow any c p h xs)
  where
    passed : p x ≡ false → (d : Bool) → c (any x) ≡ d → find c (map any xs) ≡ cond d (Some (any x)) (find c (map any xs))
    passed e true f = absurd (false≢true (sym e ∙ h x f))
    passed e false f = refl

    step : (b : Bool) → p x ≡ b → find c (map any (filter p xs)) ≡ find c (map any xs) → find c (map any (cond b (x ∷ filter p xs) (filter p xs))) ≡ cond (c (any x)) (Some (any x)) (find c (map any xs))
    step true e g = ap (λ o. cond (c (any x)) (Some (any x)) o) g
    step false e g = g ∙ passed e (c (any x)) refl

-- ---- rows that name a key

-- the key of a number has the number
pub numbered : (k : Key) (table : Table) (n : ℕ) → is_key k (id_key table n) ≡ true → (n == k.a) ≡ true
numbered k table n e = eq-eqb n k.a (sym (ap (λ (j : Key). j.a) (is_key-same k (id_key table n) e)))

pub in_table : (k : Key) (table : Table) (n : ℕ) → is_key k (id_key table n) ≡ true → k.table ≡ table
in_table k table n e = ap (λ (j : Key). j.table) (is_key-same k (id_key table n) e)

-- a key of another table is none of these
other_key : (k : Key) (table : Table) (n : ℕ) → (table_number k.table == table_number table) ≡ false → is_key k (id_key table n) ≡ false
other_key k table n e = step (is_key k (id_key table n)) refl
  where
    step : (b : Bool) → is_key k (id_key table n) ≡ b → is_key k (id_key table n) ≡ false
    step true f = absurd (false≢true (sym e ∙ eq-eqb (table_number k.table) (table_number table) (ap table_number (in_table k table n f))))
    step false f = f

pub other_ids : (k : Key) (table : Table) (ids : List ℕ) → (table_number k.table == table_number table) ≡ false → list_any (is_key k) (map (id_key table) ids) ≡ false
other_ids k table [] e = refl
other_ids k table (n ∷ ids) e = ap (λ b. b || list_any (is_key k) (map (id_key table) ids)) (other_key k table n e) ∙ other_ids k table ids e

pub other_ratings : (k : Key) (ratings : List (ℕ × ℕ)) → (table_number k.table == table_number CharacteristicTable) ≡ false → list_any (is_key k) (map (λ c. id_key CharacteristicTable c.0) ratings) ≡ false
other_ratings k [] e = refl
other_ratings k (c ∷ ratings) e = ap (λ b. b || list_any (is_key k) (map (λ c. id_key CharacteristicTable c.0) ratings)) (other_key k CharacteristicTable c.0 e) ∙ other_ratings k ratings e

alone : (k : Key) (table : Table) (n : ℕ) → (is_key k (id_key table n) || false) ≡ true → (n == k.a) ≡ true
alone k table n e = elim (or_cases (is_key k (id_key table n)) false e) [
  | inl f ↦ numbered k table n f
  | inr f ↦ absurd (false≢true f)
]

beside : (k : Key) (other : Table) (n m : ℕ) → k.table ≡ ResourceTable → (table_number other == 12) ≡ false → (is_key k (id_key ResourceTable n) || (is_key k (id_key other m) || false)) ≡ true → (n == k.a) ≡ true
beside k other n m e d h = elim (or_cases (is_key k (id_key ResourceTable n)) (is_key k (id_key other m) || false) h) [
  | inl f ↦ numbered k ResourceTable n f
  | inr f ↦ elim (or_cases (is_key k (id_key other m)) false f) [
    | inl g ↦ absurd (false≢true (sym d ∙ ap (λ x. table_number x == 12) (sym (in_table k other m g) ∙ e)))
    | inr g ↦ absurd (false≢true g)
  ]
]

pub of_works : (t : Tables) (k : Key) → option_map key_of (find (cites k) (map Work (filter (λ (x : WorkRow). x.calendar == k.a) t.works))) ≡ citing_in t k WorkTable
of_works t k = ap (option_map key_of) (narrow Work (cites k) (λ (x : WorkRow). x.calendar == k.a) (λ x e. alone k CalendarTable x.calendar e) t.works)

pub of_breaks : (t : Tables) (k : Key) → option_map key_of (find (cites k) (map Break (filter (λ (x : BreakRow). x.calendar == k.a) t.breaks))) ≡ citing_in t k BreakTable
of_breaks t k = ap (option_map key_of) (narrow Break (cites k) (λ (x : BreakRow). x.calendar == k.a) (λ x e. alone k CalendarTable x.calendar e) t.breaks)

pub of_days : (t : Tables) (k : Key) → option_map key_of (find (cites k) (map Day (filter (λ (x : DayRow). x.calendar == k.a) t.days))) ≡ citing_in t k DayTable
of_days t k = ap (option_map key_of) (narrow Day (cites k) (λ (x : DayRow). x.calendar == k.a) (λ x e. alone k CalendarTable x.calendar e) t.days)

pub of_offs : (t : Tables) (k : Key) → option_map key_of (find (cites k) (map Off (filter (λ (x : OffRow). x.resource == k.a) t.offs))) ≡ citing_in t k OffTable
of_offs t k = ap (option_map key_of) (narrow Off (cites k) (λ (x : OffRow). x.resource == k.a) (λ x e. alone k ResourceTable x.resource e) t.offs)

pub of_roles : (t : Tables) (k : Key) → k.table ≡ ResourceTable → option_map key_of (find (cites k) (map HasRole (filter (λ (x : HasRow). x.resource == k.a) t.has_roles))) ≡ citing_in t k HasRoleTable
of_roles t k h = ap (option_map key_of) (narrow HasRole (cites k) (λ (x : HasRow). x.resource == k.a) (λ x e. beside k RoleTable x.resource x.what h refl e) t.has_roles)

pub of_characteristics : (t : Tables) (k : Key) → k.table ≡ ResourceTable → option_map key_of (find (cites k) (map HasCharacteristic (filter (λ (x : HasRow). x.resource == k.a) t.has_characteristics))) ≡ citing_in t k HasCharacteristicTable
of_characteristics t k h = ap (option_map key_of) (narrow HasCharacteristic (cites k) (λ (x : HasRow). x.resource == k.a) (λ x e. beside k CharacteristicTable x.resource x.what h refl e) t.has_characteristics)

pub of_territories : (t : Tables) (k : Key) → k.table ≡ ResourceTable → option_map key_of (find (cites k) (map HasTerritory (filter (λ (x : HasRow). x.resource == k.a) t.has_territories))) ≡ citing_in t k HasTerritoryTable
of_territories t k h = ap (option_map key_of) (narrow HasTerritory (cites k) (λ (x : HasRow). x.resource == k.a) (λ x e. beside k TerritoryTable x.resource x.what h refl e) t.has_territories)

-- a booking names no row of these tables but its resource
of_resource : (k : Key) (g r : ℕ) → is_master k.table ≡ true → (is_key k (id_key GroupTable g) || (is_key k (id_key ResourceTable r) || false)) ≡ true → (r == k.a) ≡ true
of_resource k g r m h = elim (or_cases (is_key k (id_key GroupTable g)) (is_key k (id_key ResourceTable r) || false) h) [
  | inl f ↦ absurd (false≢true (ap is_master (sym (in_table k GroupTable g f)) ∙ m))
  | inr f ↦ alone k ResourceTable r f
]

pub of_bookings : (t : Tables) (k : Key) → is_master k.table ≡ true → option_map key_of (find (cites k) (map Booking (filter (λ (x : BookingRow). x.resource == k.a) t.bookings))) ≡ citing_in t k BookingTable
of_bookings t k m = ap (option_map key_of) (narrow Booking (cites k) (λ (x : BookingRow). x.resource == k.a) (λ x e. of_resource k x.group x.resource m e) t.bookings)

-- ---- rows that name nothing

no_row : {R : Type 0} (any : R → AnyRow) (c : AnyRow → Bool) → ((x : R) → c (any x) ≡ false) → (xs : List R) → None ≡ option_map key_of (find c (map any xs))
no_row any c h [] = refl
no_row any c h (x ∷ xs) = no_row any c h xs ∙ ap (λ b. option_map key_of (cond b (Some (any x)) (find c (map any xs)))) (sym (h x))

-- tables whose rows name no row
abbrev pub is_silent : Table → Bool
is_silent ZoneTable = true
is_silent UnitTable = true
is_silent SiteTable = true
is_silent RoleTable = true
is_silent CharacteristicTable = true
is_silent TerritoryTable = true
is_silent CallerTable = true
is_silent BookingNumbers = true
is_silent _ = false

pub silent : (t : Tables) (k : Key) (table : Table) → is_silent table ≡ true → None ≡ citing_in t k table
silent t k ZoneTable e = no_row Zone (cites k) (λ x. refl) t.zones
silent t k UnitTable e = no_row Unit (cites k) (λ x. refl) t.units
silent t k SiteTable e = no_row Site (cites k) (λ x. refl) t.sites
silent t k RoleTable e = no_row Role (cites k) (λ x. refl) t.roles
silent t k CharacteristicTable e = no_row Characteristic (cites k) (λ x. refl) t.characteristics
silent t k TerritoryTable e = no_row Territory (cites k) (λ x. refl) t.territories
silent t k CallerTable e = no_row Caller (cites k) (λ x. refl) t.callers
silent t k BookingNumbers e = refl
silent t k _ e = absurd (false≢true e)
