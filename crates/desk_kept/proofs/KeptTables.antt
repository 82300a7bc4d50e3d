-- The kept rows of sound tables are read as the tables.
use Rattle.std.proofs.Common.{◌≡◌, ℕ, ◌<◌, ◌≤◌, nat_le, nat_lt, Bool, true, false, ◌&&◌, List, [], ◌∷◌, ◌++◌, map, find, fold, Option, None, Some, Ok, IsTrue, All, inl, inr, refl, sym, ap, ◌∙◌, subst, arith}
use Rattle.std.specs.Bool.{⊤}
use Rattle.std.specs.Prelude.{flat_map, option_and_then}
use Rattle.std.specs.List.{list_all}
use Rattle.std.specs.List.Sorted.{IsStrictlySortedBy}
use Rattle.std.specs.declared.cmp.Ordering.TheVariants.{Less}
use Rattle.std.specs.Ordering.{nat_cmp, is_lt, ordering_then}
use Rattle.std.proofs.lemmas.List.Elements.{recursion_from_All, All-from_recursion}
use Rattle.std.proofs.lemmas.Bool.{and_parts, leb-true, ltb-true}
use Rattle.std.proofs.lemmas.List.{map-append}
use Rattle.serde_json.specs.Written.{compact_text}
use Rattle.desk_base.specs.declared.rows.tables.Tables.{Tables}
use Rattle.desk_base.specs.declared.rows.tables.Table.{Table}
use Rattle.desk_base.specs.declared.rows.tables.Key.{Key}
use Rattle.desk_base.specs.declared.rows.tables.AnyRow.{AnyRow}
use Rattle.desk_base.specs.declared.rows.tables.AnyRow.TheVariants.{Zone}
use Rattle.desk_base.specs.declared.rows.bookings.BookingRow.{BookingRow}
use Rattle.desk_base.specs.declared.rows.tables.Table.TheVariants.{Booking as BookingTable}
use Rattle.desk_base.specs.declared.asked.rules.Field.TheVariants as field
use Rattle.desk_base.specs.rows.Keys.{table_number, key_cmp, id_key}
use Rattle.desk_base.specs.rows.Trial.{no_rows}
use Rattle.desk_base.specs.rules.Limits.{revision_limit, serial_limit}
use Rattle.desk_base.specs.rows.Rows.{rows_in, key_of, keys_in}
use Rattle.desk_base.specs.declared.asked.rules.TableRule.TheVariants.{Field, Count}
use Rattle.desk_base.specs.rules.Sound.{IsSound}
use Rattle.desk_base.specs.asked.Refusing.{all_tables}
use Rattle.desk_base.proofs.lists.Members.{IsIn, all_at, all_from, in-append, in-flat_map, in_mapped, contains_from_in, sorted-append}
use Rattle.desk_base.proofs.meaning.Patterns.{nat_cmp-less}
use Rattle.desk_base.proofs.tables.Sounds.{key_table, keys_rise}
use Rattle.desk_json.specs.Reading.{greatest_u8, greatest_u64}
use Rattle.desk_json.specs.Forms.{under}
use Rattle.desk_kept.specs.Kept.{row_data, row_text}
use Rattle.desk_kept.specs.Rules.{KeepsRules}
use Rattle.desk_kept.specs.Typed.{IsTyped, HasHorizon}
use Rattle.desk_kept.specs.Versions.{is_of_version, row_in_version, row_of_version}
use Rattle.desk_kept.specs.Stored.{kept_row, header_data, header_row, all_rows, kept_rows, place_of, is_above, is_header, table_of, key_kept, header_form, header_in, header_of_text, if_read, header_of, row_kept, is_good, first_bad, rows_held, with_last, unless_bad, tables_held, with_header, tables_under, tables_kept}
use Rattle.desk_kept.specs.declared.stored.KeptRow.{KeptRow}
use Rattle.desk_kept.specs.declared.stored.Place.{Place}
use Rattle.desk_kept.specs.declared.headers.Header.{Header}
use Rattle.desk_kept.specs.declared.versions.Version.{Version}
use Rattle.desk_kept.specs.declared.versions.Version.TheVariants.{Second}
use Rattle.desk_kept.proofs.ReadBack.{parsed_back}
use Rattle.desk_kept.proofs.ReadRows.{IsReadBack}
use Rattle.desk_kept.proofs.AllRows.{each_back}
use Rattle.desk_kept.proofs.KeptValues.{whole_kept, u32_kept}
use Rattle.desk_kept.proofs.RuleLaws.{horizon}
use Rattle.desk_kept.proofs.LastRows.{made_of_rows}
use Rattle.desk_kept.proofs.OffsetLaws.{second}

-- ---- rows of sound tables

-- a row keeps its rules in the tables that it is of
pub rules_kept : (t : Tables) (table : Table) (row : AnyRow) → IsSound t → IsIn row (rows_in t table) → KeepsRules row
rules_kept t table row s i =
    let own : (key_of row).table ≡ table = key_table t table (key_of row) (in_mapped key_of row (rows_in t table) i) in
    let here : IsIn row (rows_in t (key_of row).table) = subst (λ d. IsIn row (rows_in t d)) (sym own) i in
    (t, s.keeps Field (key_of row) row (contains_from_in (rows_in t (key_of row).table) row here) refl)

-- all rows have their days and shifts in the horizon
pub horizons : (t : Tables) → IsSound t → (table : Table) → All HasHorizon (rows_in t table)
horizons t s table = All-from_recursion HasHorizon (rows_in t table) (all_from HasHorizon (rows_in t table) (λ row i. horizon row (rules_kept t table row s i)))

-- ---- one row

key_back : (row : AnyRow) → key_kept (kept_row row) ≡ Some (key_of row)
unfolding kept_row table_of
key_back (Zone x) = refl
key_back _ = refl

not_header : (row : AnyRow) → is_header (kept_row row) ≡ false
unfolding kept_row
not_header (Zone x) = refl
not_header _ = refl

text_back : (v : Version) (row : AnyRow) → IsReadBack row → is_of_version v (key_of row).table (row_data row) ≡ true → row_of_version v (key_of row) (row_text row) ≡ Ok row
unfolding row_of_version row_in_version
text_back v row h of = rw (parsed_back (row_data row) h.sound h.deep, h.reads, of) refl

body_is : (row : AnyRow) → (kept_row row).body ≡ row_text row
unfolding kept_row
body_is row = refl

row_back : (row : AnyRow) → IsTyped row → KeepsRules row → row_kept Second (kept_row row) ≡ Some row
unfolding row_kept
row_back row is keeps = rw (key_back row, body_is row, text_back Second row (each_back row is keeps) (second row keeps)) refl

-- ---- places

-- the place of the header
abbrev header_place : Place
header_place = record { kind = 20; a = 0; b = 0; c = 0 }

below_header : (row : AnyRow) → is_above (Some (place_of (kept_row row))) header_place ≡ true
unfolding kept_row
below_header (Zone x) = refl
below_header _ = refl

below_row : (x y : AnyRow) → key_cmp (key_of x) (key_of y) ≡ Less → is_above (Some (place_of (kept_row x))) (place_of (kept_row y)) ≡ true
unfolding kept_row
below_row x y e = ap is_lt e

-- a place is below the first of the kept rows of these rows, which the header ends
abbrev IsBefore : Option Place → List AnyRow → Type 0
IsBefore before [] = is_above before header_place ≡ true
IsBefore before (x ∷ xs) = is_above before (place_of (kept_row x)) ≡ true

before_rest : (x : AnyRow) (xs : List AnyRow) → IsStrictlySortedBy key_cmp (map key_of (x ∷ xs)) → IsBefore (Some (place_of (kept_row x))) xs
unfolding IsStrictlySortedBy
before_rest x [] s = below_header x
before_rest x (y ∷ ys) s = below_row x y s.0.0

rest_rises : (x : AnyRow) (xs : List AnyRow) → IsStrictlySortedBy key_cmp (map key_of (x ∷ xs)) → IsStrictlySortedBy key_cmp (map key_of xs)
unfolding IsStrictlySortedBy
rest_rises x xs s = s.1

-- ---- all rows, and the header behind them

module _ (h : KeptRow) (at_place : place_of h ≡ header_place) (is : is_header h ≡ true) (no_row : row_kept Second h ≡ None) where
  good_last : (before : Option Place) → is_above before header_place ≡ true → is_good Second before h ≡ true
  unfolding is_good
  good_last before above = rw (at_place, above, is) refl

  good_row : (before : Option Place) (x : AnyRow) → is_above before (place_of (kept_row x)) ≡ true → row_kept Second (kept_row x) ≡ Some x → is_good Second before (kept_row x) ≡ true
  unfolding is_good
  good_row before x above back = rw (above, back, not_header x) refl

  none_bad : (before : Option Place) (xs : List AnyRow) → IsBefore before xs → IsStrictlySortedBy key_cmp (map key_of xs) → ((x : AnyRow) → IsIn x xs → row_kept Second (kept_row x) ≡ Some x) → first_bad Second before (map kept_row xs ++ h ∷ []) ≡ None
  none_bad before [] above s back = rw (good_last before above) refl
  none_bad before (x ∷ xs) above s back =
      rw (good_row before x above (back x (inl refl))) (none_bad (Some (place_of (kept_row x))) xs (before_rest x xs s) (rest_rises x xs s) (λ y i. back y (inr i)))

  all_held : (xs : List AnyRow) → ((x : AnyRow) → IsIn x xs → row_kept Second (kept_row x) ≡ Some x) → rows_held Second (map kept_row xs ++ h ∷ []) ≡ xs
  all_held [] back = rw no_row refl
  all_held (x ∷ xs) back = rw (back x (inl refl)) (ap (λ rest. x ∷ rest) (all_held xs (λ y i. back y (inr i))))

  found_last : (xs : List AnyRow) → find is_header (map kept_row xs ++ h ∷ []) ≡ Some h
  found_last [] = rw is refl
  found_last (x ∷ xs) = rw (not_header x) (found_last xs)

-- ---- the header

header_is : (t : Tables) → (header_row t).body ≡ compact_text (header_data t)
unfolding header_row
header_is t = refl

header_back : (t : Tables) → IsSound t → header_of_text (header_row t).body ≡ Ok (record { last_booking = t.last_booking; revision = t.revision; version = Second })
unfolding header_row header_of_text header_in header_form under
header_back t s =
    let p = and_parts (nat_le t.revision revision_limit && nat_le t.last_booking serial_limit) (list_all (λ (b : BookingRow). nat_le b.id t.last_booking) t.bookings) (s.keeps Count (id_key BookingTable 0) refl) in
    let q = and_parts (nat_le t.revision revision_limit) (nat_le t.last_booking serial_limit) p.0 in
    let few : t.revision ≤ revision_limit = leb-true t.revision revision_limit q.0 in
    let low : t.last_booking ≤ serial_limit = leb-true t.last_booking serial_limit q.1 in
    let revision = whole_kept greatest_u64 t.revision (omega (arith, few)) (omega arith) in
    let last = u32_kept t.last_booking (omega (arith, low)) in
    let version = whole_kept greatest_u8 2 (omega arith) (omega arith) in
    rw (parsed_back (header_data t) ((refl, last.sound, (refl, revision.sound, (refl, version.sound, tt))), refl) (omega (arith, last.deep, revision.deep, version.deep)), last.reads field.Body, revision.reads field.Body, version.reads field.Body)
    refl

header_place_is : (t : Tables) → (place_of (header_row t) ≡ header_place) × (is_header (header_row t) ≡ true)
unfolding header_row
header_place_is t = (refl, refl)

header_no_row : (t : Tables) → row_kept Second (header_row t) ≡ None
unfolding row_kept header_row table_of
header_no_row t = refl

-- ---- the keys of all rows rise

-- the numbers of tables rise, from above a number
abbrev climbs : ℕ → List Table → Bool
climbs n [] = true
climbs n (d ∷ ds) = nat_lt n (table_number d) && climbs (table_number d) ds

above : (t : Tables) (n : ℕ) (ds : List Table) → climbs n ds ≡ true → (k : Key) → IsIn k (flat_map (keys_in t) ds) → n < table_number k.table
above t n [] e k i = absurd i
above t n (d ∷ ds) e k i =
    let p = and_parts (nat_lt n (table_number d)) (climbs (table_number d) ds) e in
    let here : n < table_number d = ltb-true n (table_number d) p.0 in
    elim (in-append k (keys_in t d) (flat_map (keys_in t) ds) i) [
      | inl j ↦ subst (λ table. n < table_number table) (sym (key_table t d k j)) here
      | inr j ↦ let later : table_number d < table_number k.table = above t (table_number d) ds p.1 k j in omega (arith, here, later)
    ]

lower : (x y : Key) → table_number x.table < table_number y.table → key_cmp x y ≡ Less
lower x y h = let e : nat_cmp (table_number x.table) (table_number y.table) ≡ Less = nat_cmp-less (table_number x.table) (table_number y.table) h in rw e refl

keys_climb : (t : Tables) → IsSound t → (n : ℕ) (ds : List Table) → climbs n ds ≡ true → IsStrictlySortedBy key_cmp (flat_map (keys_in t) ds)
unfolding IsStrictlySortedBy
keys_climb t s n [] e = tt
keys_climb t s n (d ∷ ds) e =
    let p = and_parts (nat_lt n (table_number d)) (climbs (table_number d) ds) e in
    sorted-append key_cmp (keys_in t d) (flat_map (keys_in t) ds) (keys_rise t d s) (keys_climb t s (table_number d) ds p.1)
    (λ x y i j. lower x y (subst (λ table. table_number table < table_number y.table) (sym (key_table t d x i)) (above t (table_number d) ds p.1 y j)))

keys_of_all : (t : Tables) (ds : List Table) → map key_of (flat_map (rows_in t) ds) ≡ flat_map (keys_in t) ds
keys_of_all t [] = refl
keys_of_all t (d ∷ ds) = map-append key_of (rows_in t d) (flat_map (rows_in t) ds) ∙ ap (λ ks. keys_in t d ++ ks) (keys_of_all t ds)

all_rise : (t : Tables) → IsSound t → IsStrictlySortedBy key_cmp (map key_of (all_rows t))
all_rise t s = subst (IsStrictlySortedBy key_cmp) (sym (keys_of_all t all_tables)) (keys_climb t s 0 all_tables refl)

-- ---- the tables

under_header : (rows : List KeptRow) (h : KeptRow) → tables_kept (rows ++ h ∷ []) ≡ tables_under (header_of (rows ++ h ∷ [])) (rows ++ h ∷ [])
unfolding tables_kept
under_header [] h = refl
under_header (r ∷ rows) h = refl

pub tables_back : (t : Tables) → IsSound t → All IsTyped (all_rows t) → tables_kept (kept_rows t) ≡ Ok t
unfolding kept_rows
tables_back t s typed =
    let h : KeptRow = header_row t in
    let rows : List KeptRow = map kept_row (all_rows t) ++ h ∷ [] in
    let head : Header = record { last_booking = t.last_booking; revision = t.revision; version = Second } in
    let place = header_place_is t in
    let none = header_no_row t in
    let typed_at = recursion_from_All IsTyped (all_rows t) typed in
    let back = λ (x : AnyRow) (i : IsIn x (all_rows t)). (let g = in-flat_map (rows_in t) x all_tables i in row_back x (all_at IsTyped (all_rows t) x typed_at i) (rules_kept t g.0 x s g.2)) in
    let found : header_of rows ≡ Some head =
    ap (option_and_then (λ (r : KeptRow). if_read (header_of_text r.body))) (found_last h place.0 place.1 none (all_rows t)) ∙ ap if_read (header_back t s) in
    let good : first_bad Second None rows ≡ None = none_bad h place.0 place.1 none None (all_rows t) (first_before (all_rows t)) (all_rise t s) back in
    let all : rows_held Second rows ≡ all_rows t = all_held h place.0 place.1 none (all_rows t) back in
    let held : tables_held Second rows ≡ Ok (fold with_last no_rows (all_rows t)) = ap (λ bad. unless_bad bad (fold with_last no_rows (rows_held Second rows))) good ∙ ap (λ xs. Ok (fold with_last no_rows xs)) all in
    under_header (map kept_row (all_rows t)) h ∙ ap (λ o. tables_under o rows) found ∙ ap (with_header head) held ∙ ap (λ u. Ok u) (made_of_rows t)
  where
    first_before : (xs : List AnyRow) → IsBefore None xs
    first_before [] = refl
    first_before (x ∷ xs) = refl
