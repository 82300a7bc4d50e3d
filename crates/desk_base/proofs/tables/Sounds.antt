-- What sound tables give, and what makes tables sound.
use Rattle.std.proofs.Common.{◌≡◌, ◌≢◌, ℕ, zero, suc, ◌<◌, ◌≤◌, Bool, true, ◌&&◌, ◌==◌, List, [], ◌∷◌, ◌++◌, map, length, ◌⊎◌, inl, inr, refl, sym, ap, ◌∙◌, subst, ◌*◌, arith, length-append}
use Rattle.std.proofs.lemmas.List.{length-map}
use Rattle.std.proofs.lemmas.Bool.{false≢true}
use Rattle.std.proofs.lemmas.Bool.Decides.{nat_tests}
use Rattle.std.proofs.lemmas.Cmp.{nat_cmp_total, on_total, then_total}
use Rattle.std.specs.Prelude.{Contains}
use Rattle.std.specs.List.{list_all, list_any}
use Rattle.std.specs.List.Sorted.{IsStrictlySortedBy}
use Rattle.std.specs.Cmp.{IsTotalOrder}
use Rattle.std.specs.declared.cmp.Ordering.{Ordering}
use Rattle.std.specs.declared.cmp.Ordering.TheVariants.{Less, Equal, Greater}
use Rattle.std.specs.Ordering.{nat_cmp, ordering_then, is_lt}
use Rattle.desk_base.specs.rows.Types.{ResourceRow, GroupRow, Tables, Table, Key, AnyRow, TableRule}
use Rattle.desk_base.specs.declared.rows.tables.Table.TheVariants.{Zone as ZoneTable, Calendar as CalendarTable, Work as WorkTable, Break as BreakTable, Day as DayTable, Off as OffTable, Unit as UnitTable, Site as SiteTable, Role as RoleTable, Characteristic as CharacteristicTable, Territory as TerritoryTable, Resource as ResourceTable, HasRole as HasRoleTable, HasCharacteristic as HasCharacteristicTable, HasTerritory as HasTerritoryTable, Member as MemberTable, Group as GroupTable, Booking as BookingTable, Caller as CallerTable, BookingNumbers}
use Rattle.desk_base.specs.declared.rows.tables.AnyRow.TheVariants.{Zone, Calendar, Work, Break, Day, Off, Unit, Site, Role, Characteristic, Territory, Resource, HasRole, HasCharacteristic, HasTerritory, Member, Group, Booking, Caller}
use Rattle.desk_base.specs.declared.asked.rules.TableRule.TheVariants.{Order, Limit, Field, Citation, Fits as FitsRule, Booked, Count}
use Rattle.desk_base.specs.rows.Keys.{table_number, key_cmp, id_key}
use Rattle.desk_base.specs.rules.TableLimits.{limit_of}
use Rattle.desk_base.specs.rows.Rows.{rows_in, key_of, keys_in, citations_of}
use Rattle.desk_base.specs.meaning.Load.{Fits, ask_of}
use Rattle.desk_base.specs.rules.Sound.{Keeps, IsSound, AreWellFormed, taken_limit_of, IsBooked, keeps_fields, bookings_of, is_counted}
use Rattle.desk_base.proofs.lists.Members.{IsIn, all_at, all_from, in-map, in_mapped, in_right, in_from_contains, contains_from_in}
use Rattle.desk_base.proofs.lists.Tests.{and_left, and_right, list_all_at, list_any_at}

-- ---- keys of a table

in_rows : {R : Type 0} (con : R → AnyRow) (xs : List R) (table : Table) (k : Key) → ((x : R) → (key_of (con x)).table ≡ table) → IsIn k (map key_of (map con xs)) → k.table ≡ table
in_rows con xs table k h i =
    let a = in-map key_of k (map con xs) i in
    let b = in-map con a.0 xs a.1 in
    ap (λ (k : Key). k.table) a.2 ∙ ap (λ r. (key_of r).table) b.2 ∙ h b.0

-- a key stands in its own table
pub key_table : (t : Tables) (table : Table) (k : Key) → IsIn k (keys_in t table) → k.table ≡ table
key_table t ZoneTable k i = in_rows Zone t.zones ZoneTable k (λ x. refl) i
key_table t CalendarTable k i = in_rows Calendar t.calendars CalendarTable k (λ x. refl) i
key_table t WorkTable k i = in_rows Work t.works WorkTable k (λ x. refl) i
key_table t BreakTable k i = in_rows Break t.breaks BreakTable k (λ x. refl) i
key_table t DayTable k i = in_rows Day t.days DayTable k (λ x. refl) i
key_table t OffTable k i = in_rows Off t.offs OffTable k (λ x. refl) i
key_table t UnitTable k i = in_rows Unit t.units UnitTable k (λ x. refl) i
key_table t SiteTable k i = in_rows Site t.sites SiteTable k (λ x. refl) i
key_table t RoleTable k i = in_rows Role t.roles RoleTable k (λ x. refl) i
key_table t CharacteristicTable k i = in_rows Characteristic t.characteristics CharacteristicTable k (λ x. refl) i
key_table t TerritoryTable k i = in_rows Territory t.territories TerritoryTable k (λ x. refl) i
key_table t ResourceTable k i = in_rows Resource t.resources ResourceTable k (λ x. refl) i
key_table t HasRoleTable k i = in_rows HasRole t.has_roles HasRoleTable k (λ x. refl) i
key_table t HasCharacteristicTable k i = in_rows HasCharacteristic t.has_characteristics HasCharacteristicTable k (λ x. refl) i
key_table t HasTerritoryTable k i = in_rows HasTerritory t.has_territories HasTerritoryTable k (λ x. refl) i
key_table t MemberTable k i = in_rows Member t.members MemberTable k (λ x. refl) i
key_table t GroupTable k i = in_rows Group t.groups GroupTable k (λ x. refl) i
key_table t BookingTable k i = in_rows Booking t.bookings BookingTable k (λ x. refl) i
key_table t BookingNumbers k i = absurd i
key_table t CallerTable k i = in_rows Caller t.callers CallerTable k (λ x. refl) i

pub key_total : IsTotalOrder key_cmp
key_total = then_total (on_total (λ (k : Key). table_number k.table) nat_cmp_total) (then_total (on_total (λ (k : Key). k.a) nat_cmp_total) (then_total (on_total (λ (k : Key). k.b) nat_cmp_total) (on_total (λ (k : Key). k.c) nat_cmp_total)))

-- where each key is above the one before it, the keys rise
pub rising_from : (keys : List Key) → ((before after : List Key) (j k : Key) → keys ≡ before ++ j ∷ k ∷ after → key_cmp j k ≡ Less) → IsStrictlySortedBy key_cmp keys
unfolding IsStrictlySortedBy
rising_from [] h = tt
rising_from (x ∷ []) h = (tt, tt)
rising_from (x ∷ y ∷ ys) h =
    let r = rising_from (y ∷ ys) (λ before after j k e. h (x ∷ before) after j k (ap (λ l. x ∷ l) e)) in
    let first = h [] ys x y refl in (
      all_from (λ z. key_cmp x z ≡ Less) (y ∷ ys) (λ z i. elim i [ inl e ↦ subst (λ w. key_cmp x w ≡ Less) (sym e) first | inr j ↦ key_total.trans x y z first (all_at (λ w. key_cmp y w ≡ Less) ys z r.0 j) ]),
      r,
    )

pub adjacent : (before after : List Key) (j k : Key) → IsStrictlySortedBy key_cmp (before ++ j ∷ k ∷ after) → key_cmp j k ≡ Less
unfolding IsStrictlySortedBy
adjacent [] after j k s = s.0.0
adjacent (x ∷ before) after j k s = adjacent before after j k s.1

-- ---- what sound tables give

pub keys_in_order : (t : Tables) (table : Table) → ((k : Key) → Keeps Order t k) → IsStrictlySortedBy key_cmp (keys_in t table)
keys_in_order t table keeps = rising_from (keys_in t table) (λ before after j k e.
    let here : IsIn k (keys_in t table) = subst (IsIn k) (sym e) (in_right k before (j ∷ k ∷ after) (inr (inl refl))) in
    keeps k before after j (ap (keys_in t) (key_table t table k here) ∙ e))

pub keys_rise : (t : Tables) (table : Table) → IsSound t → IsStrictlySortedBy key_cmp (keys_in t table)
keys_rise t table s = keys_in_order t table (s.keeps Order)

then_equal : (r : Ordering) → ordering_then r Equal ≡ Less → r ≡ Less
then_equal Less e = refl
then_equal Equal e = absurd (false≢true (ap is_lt e))
then_equal Greater e = absurd (false≢true (ap is_lt e))

ids_rise : (xs : List ResourceRow) → IsStrictlySortedBy key_cmp (map key_of (map Resource xs)) → IsStrictlySortedBy nat_cmp (map (λ (x : ResourceRow). x.id) xs)
unfolding IsStrictlySortedBy
ids_rise [] s = tt
ids_rise (x ∷ xs) s = (
  all_from (λ n. nat_cmp x.id n ≡ Less) (map (λ (y : ResourceRow). y.id) xs) (λ n i.
      let e = in-map (λ (y : ResourceRow). y.id) n xs i in
      let l = all_at (λ k. key_cmp (key_of (Resource x)) k ≡ Less) (map key_of (map Resource xs)) (key_of (Resource e.0)) s.0 (in_mapped key_of (Resource e.0) (map Resource xs) (in_mapped Resource e.0 xs e.1)) in
      subst (λ m. nat_cmp x.id m ≡ Less) (sym e.2) (then_equal (nat_cmp x.id e.0.id) l)),
  ids_rise xs s.1,
)

pub resources_in_order : (t : Tables) → ((k : Key) → Keeps Order t k) → IsStrictlySortedBy nat_cmp (map (λ (x : ResourceRow). x.id) t.resources)
resources_in_order t keeps = ids_rise t.resources (keys_in_order t ResourceTable keeps)

pub resources_rise : (t : Tables) → IsSound t → IsStrictlySortedBy nat_cmp (map (λ (x : ResourceRow). x.id) t.resources)
resources_rise t s = resources_in_order t (s.keeps Order)

pub split_at : {A : Type 0} (n : ℕ) (xs : List A) → n < length xs → (before : List A) × (k : A) × (after : List A) × (xs ≡ before ++ k ∷ after) × (length before ≡ n)
split_at n [] h = absurd (omega arith)
split_at zero (x ∷ xs) h = ([], x, xs, refl, refl)
split_at (suc n) (x ∷ xs) h = let r = split_at n xs (omega arith) in (x ∷ r.0, r.1, r.2, ap (λ l. x ∷ l) r.3, ap suc r.4)

le_or : (a b : ℕ) → (a ≤ b) ⊎ (b < a)
le_or a b = grind arith

pub few_keys : (t : Tables) (table : Table) → IsSound t → length (keys_in t table) ≤ limit_of table
few_keys t table s = elim (le_or (length (keys_in t table)) (limit_of table)) [
  | inl h ↦ h
  | inr h ↦
      let p = split_at (limit_of table) (keys_in t table) h in
      let here : IsIn p.1 (keys_in t table) = subst (IsIn p.1) (sym p.3) (in_right p.1 p.0 (p.1 ∷ p.2) (inl refl)) in
      let e = key_table t table p.1 here in
      absurd (s.keeps Limit p.1 p.0 p.2 (ap (keys_in t) e ∙ p.3) (p.4 ∙ sym (ap limit_of e)))
]

pub bookings_fit : (t : Tables) → IsSound t → Fits t (map ask_of t.bookings)
bookings_fit t s = record { at = λ r m i. s.keeps FitsRule (id_key ResourceTable r) refl m i }

pub group_keeps : (t : Tables) (g : GroupRow) → ((k : Key) → Keeps Field t k) → Contains t.groups g → keeps_fields t (Group g) ≡ true
group_keeps t g keeps c = keeps (id_key GroupTable g.id) (Group g) (contains_from_in (map Group t.groups) (Group g) (in_mapped Group g t.groups (in_from_contains t.groups g c))) refl

pub group_kept : (t : Tables) (g : GroupRow) → IsSound t → Contains t.groups g → keeps_fields t (Group g) ≡ true
group_kept t g s c = group_keeps t g (s.keeps Field) c

-- ---- sound tables are well formed

pub ten_times : (m n : ℕ) → m ≤ n → m ≤ 10 * n
ten_times m n h = omega (arith, h)

pub enough_taken : (table : Table) (n : ℕ) → n ≤ limit_of table → n ≤ taken_limit_of table
enough_taken ZoneTable n h = h
enough_taken CalendarTable n h = h
enough_taken WorkTable n h = h
enough_taken BreakTable n h = h
enough_taken DayTable n h = h
enough_taken OffTable n h = ten_times n (limit_of OffTable) h
enough_taken UnitTable n h = h
enough_taken SiteTable n h = h
enough_taken RoleTable n h = h
enough_taken CharacteristicTable n h = h
enough_taken TerritoryTable n h = h
enough_taken ResourceTable n h = h
enough_taken HasRoleTable n h = h
enough_taken HasCharacteristicTable n h = h
enough_taken HasTerritoryTable n h = h
enough_taken MemberTable n h = h
enough_taken GroupTable n h = h
enough_taken BookingTable n h = ten_times n (limit_of BookingTable) h
enough_taken CallerTable n h = h
enough_taken BookingNumbers n h = h

pub well_formed : (t : Tables) → IsSound t → AreWellFormed t
well_formed t s = record {
  order = s.keeps Order;
  limit = λ table. enough_taken table (length (rows_in t table)) (subst (λ n. n ≤ limit_of table) (length-map (rows_in t table) key_of) (few_keys t table s));
  field = s.keeps Field;
  citation = s.keeps Citation;
}

-- ---- what makes tables sound

abbrev pub has_numbers : Key → Key → Bool
has_numbers c k = (k.a == c.a) && ((k.b == c.b) && (k.c == c.c))

abbrev is_there : Tables → Key → Bool
is_there t c = list_any (has_numbers c) (keys_in t c.table)

abbrev pub cites_there : Tables → AnyRow → Bool
cites_there t row = list_all (is_there t) (citations_of row)

pub same_number : (m n : ℕ) → (m == n) ≡ true → m ≡ n
same_number m n h = grind (arith, nat_tests)

pub same_key : (x y : Key) → x.table ≡ y.table → x.a ≡ y.a → x.b ≡ y.b → x.c ≡ y.c → x ≡ y
same_key x y d e f h =
    ap (λ u. record { table = u; a = x.a; b = x.b; c = x.c }) d ∙ ap (λ u. record { table = y.table; a = u; b = x.b; c = x.c }) e
    ∙ ap (λ u. record { table = y.table; a = y.a; b = u; c = x.c }) f ∙ ap (λ u. record { table = y.table; a = y.a; b = y.b; c = u }) h

pub there_is : (t : Tables) (c : Key) → is_there t c ≡ true → Contains (keys_in t c.table) c
there_is t c e =
    let h = list_any_at (has_numbers c) (keys_in t c.table) e in
    let r = and_right (h.0.a == c.a) ((h.0.b == c.b) && (h.0.c == c.c)) h.2 in
    let same = same_key h.0 c (key_table t c.table h.0 h.1) (same_number h.0.a c.a (and_left (h.0.a == c.a) ((h.0.b == c.b) && (h.0.c == c.c)) h.2)) (same_number h.0.b c.b (and_left (h.0.b == c.b) (h.0.c == c.c) r)) (same_number h.0.c c.c (and_right (h.0.b == c.b) (h.0.c == c.c) r)) in
    subst (Contains (keys_in t c.table)) same (contains_from_in (keys_in t c.table) h.0 h.1)

-- the rules, looked at table by table
pub record IsSoundByTable (t : Tables) : Type 0 where
  pub order : (table : Table) → IsStrictlySortedBy key_cmp (keys_in t table)
  pub limit : (table : Table) → length (keys_in t table) ≤ limit_of table
  pub field : (table : Table) → list_all (keeps_fields t) (rows_in t table) ≡ true
  pub citation : (table : Table) → list_all (cites_there t) (rows_in t table) ≡ true
  pub fits : Fits t (map ask_of t.bookings)
  pub booked : (g : GroupRow) → Contains t.groups g → (bookings_of t g ≡ []) ⊎ IsBooked t g
  pub count : is_counted t ≡ true

pub under_limit : (before after : List Key) (k : Key) (n : ℕ) → length (before ++ k ∷ after) ≤ n → length before ≢ n
under_limit before after k n h e = let l = length-append before (k ∷ after) in omega arith

keeps_each : (t : Tables) → IsSoundByTable t → (rule : TableRule) (k : Key) → Keeps rule t k
keeps_each t h Order k = λ before after j e. adjacent before after j k (subst (IsStrictlySortedBy key_cmp) e (h.order k.table))
keeps_each t h Limit k = λ before after e. under_limit before after k (limit_of k.table) (subst (λ l. length l ≤ limit_of k.table) e (h.limit k.table))
keeps_each t h Field k = λ row c e. list_all_at (keeps_fields t) (rows_in t k.table) row (h.field k.table) (in_from_contains (rows_in t k.table) row c)
keeps_each t h Citation k = λ row c r e i. there_is t c (list_all_at (is_there t) (citations_of row) c (list_all_at (cites_there t) (rows_in t k.table) row (h.citation k.table) (in_from_contains (rows_in t k.table) row r)) (in_from_contains (citations_of row) c i))
keeps_each t h FitsRule k = λ e m i. h.fits.at k.a m i
keeps_each t h Booked k = λ g c e. h.booked g c
keeps_each t h Count k = λ e. h.count

pub sound_by_table : (t : Tables) → IsSoundByTable t → IsSound t
sound_by_table t h = record { keeps = keeps_each t h }
