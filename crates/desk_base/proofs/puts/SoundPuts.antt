-- Sound tables stay sound with a row that suits them.
use Rattle.std.proofs.Common.{◌≡◌, ◌≤◌, Bool, true, false, cond, ◌&&◌, ◌||◌, ◌==◌, nat_le, nat_lt, List, [], ◌∷◌, map, filter, length, ◌⊎◌, inl, inr, refl, sym, ap, ◌∙◌, subst, arith}
use Rattle.std.proofs.lemmas.Bool.{false≢true, not-true, or_cases, ltb-true, eq-eqb}
use Rattle.std.proofs.lemmas.List.{length-map}
use Rattle.std.specs.Prelude.{Contains}
use Rattle.std.specs.List.{list_all, list_any}
use Rattle.desk_base.specs.rows.Types.{Tables, Table, Key, AnyRow, GroupRow, BookingRow}
use Rattle.desk_base.specs.declared.rows.tables.Table.TheVariants.{Group as GroupTable, Booking as BookingTable}
use Rattle.desk_base.specs.declared.rows.tables.AnyRow.TheVariants.{Group, Booking}
use Rattle.desk_base.specs.declared.asked.rules.TableRule.TheVariants.{Booked, Count}
use Rattle.desk_base.specs.rules.Limits.{revision_limit, serial_limit}
use Rattle.desk_base.specs.rules.TableLimits.{limit_of}
use Rattle.desk_base.specs.rows.Keys.{id_key}
use Rattle.desk_base.specs.rows.Rows.{rows_in, key_of, keys_in, citations_of}
use Rattle.desk_base.specs.meaning.Load.{Fits, ask_of}
use Rattle.desk_base.specs.asked.Groups.{is_booked}
use Rattle.desk_base.specs.asked.Refusing.{is_there}
use Rattle.desk_base.specs.changes.Changes.{with_one, with_row}
use Rattle.desk_base.specs.rules.Sound.{IsSound, IsBooked, keeps_fields, bookings_of, is_counted}
use Rattle.desk_base.proofs.lists.Members.{in-map, in_mapped, in_from_contains, contains_from_in}
use Rattle.desk_base.proofs.lists.Tests.{list_all_from, list_any_from}
use Rattle.desk_base.proofs.tables.Sounds.{keys_rise, few_keys, cites_there, sound_by_table}
use Rattle.desk_base.proofs.puts.Overlaps.{none_at}
use Rattle.desk_base.proofs.tables.WithOne.{length_more, length_stays}
use Rattle.desk_base.proofs.tables.RowPuts.{rows_cases, in_put, keys_rise_put}
use Rattle.desk_base.proofs.tables.AnyRows.{same_group, new_or_old}
use Rattle.desk_base.proofs.puts.Suits.{Suits, is_unbooked, key_there, put_cites, own_table}
use Rattle.desk_base.proofs.puts.FieldPuts.{fields_put}

-- ---- what the row leaves as it is

-- bookings and counters are as before
pub rest_put : (t : Tables) (row : AnyRow) → is_unbooked t row ≡ true → ((with_row t row).bookings ≡ t.bookings) × ((with_row t row).revision ≡ t.revision) × ((with_row t row).last_booking ≡ t.last_booking)
rest_put t (Booking b) e = absurd (false≢true e)
rest_put t row e = (refl, refl, refl)

-- ---- the rules, one by one

module _ (t : Tables) (row : AnyRow) (s : IsSound t) (fit : Suits t row) where
  pub few_rows : (table : Table) → length (rows_in t table) ≤ limit_of table
  few_rows table = subst (λ n. n ≤ limit_of table) (length-map (rows_in t table) key_of) (few_keys t table s)

  pub own_limit : length (with_one key_of row (rows_in t (key_of row).table)) ≤ limit_of (key_of row).table
  own_limit = elim (or_cases (is_there t (key_of row)) (nat_lt (length (rows_in t (key_of row).table)) (limit_of (key_of row).table)) fit.place) [
    | inl e ↦
        let h = in-map key_of (key_of row) (rows_in t (key_of row).table) (key_there t (key_of row) e) in
        let l = length_stays key_of row h.0 (rows_in t (key_of row).table) h.1 (sym h.2) in
        let f = few_rows (key_of row).table in omega arith
    | inr e ↦
        let l = length_more key_of row (rows_in t (key_of row).table) in
        let f = ltb-true (length (rows_in t (key_of row).table)) (limit_of (key_of row).table) e in omega arith
  ]

  pub rows_limit : (table : Table) → length (rows_in (with_row t row) table) ≤ limit_of table
  rows_limit table = elim (rows_cases t row table) [
    | inl e ↦ subst (λ l. length l ≤ limit_of table) (sym e.1) (subst (λ d. length (with_one key_of row (rows_in t d)) ≤ limit_of d) e.0 own_limit)
    | inr e ↦ subst (λ l. length l ≤ limit_of table) (sym e) (few_rows table)
  ]

  pub put_limit : (table : Table) → length (keys_in (with_row t row) table) ≤ limit_of table
  put_limit table = subst (λ n. n ≤ limit_of table) (sym (length-map (rows_in (with_row t row) table) key_of)) (rows_limit table)

  pub put_field : (table : Table) → list_all (keeps_fields (with_row t row)) (rows_in (with_row t row) table) ≡ true
  put_field table = list_all_from (keeps_fields (with_row t row)) (rows_in (with_row t row) table) (λ x i. fields_put t row s fit x (own_table (with_row t row) table x i))

  pub put_citation : (table : Table) → list_all (cites_there (with_row t row)) (rows_in (with_row t row) table) ≡ true
  put_citation table = list_all_from (cites_there (with_row t row)) (rows_in (with_row t row) table) (λ x i.
      list_all_from (λ (c : Key). list_any (λ (k : Key). (k.a == c.a) && ((k.b == c.b) && (k.c == c.c))) (keys_in (with_row t row) c.table)) (citations_of x) (λ c j.
      list_any_from (λ (k : Key). (k.a == c.a) && ((k.b == c.b) && (k.c == c.c))) (keys_in (with_row t row) c.table) c (put_cites t row s fit table x c i j) (λ i. eq-eqb c.a c.a refl i && (eq-eqb c.b c.b refl i && eq-eqb c.c c.c refl i))))

  pub put_count : is_counted (with_row t row) ≡ true
  put_count =
      let e = rest_put t row fit.unbooked in
      (λ i. nat_le (e.1 i) revision_limit && nat_le (e.2 i) serial_limit && list_all (λ (b : BookingRow). nat_le b.id (e.2 i)) (e.0 i)) ∙ s.keeps Count (id_key BookingTable 0) refl

-- ---- what groups have of bookings

pub none_filtered : {A : Type 0} (p : A → Bool) (xs : List A) → list_any p xs ≡ false → filter p xs ≡ []
none_filtered p [] e = refl
none_filtered p (x ∷ xs) e = ap (λ b. cond b (x ∷ filter p xs) (filter p xs)) (none_at p (x ∷ xs) x e (inl refl)) ∙ none_filtered p xs (rest (p x) e)
  where
    rest : (b : Bool) → (b || list_any p xs) ≡ false → list_any p xs ≡ false
    rest true h = absurd (false≢true (sym h))
    rest false h = h

-- a group of the same bookings is booked as before
pub booked_as_before : (t u : Tables) (g : GroupRow) → bookings_of u g ≡ bookings_of t g → (bookings_of t g ≡ []) ⊎ IsBooked t g → (bookings_of u g ≡ []) ⊎ IsBooked u g
booked_as_before t u g e (inl h) = inl (e ∙ h)
booked_as_before t u g e (inr h) = inr (record {
  start = h.start;
  picks = h.picks;
  grid = h.grid;
  pattern = h.pattern;
  each = λ j. ap (λ l. map ask_of (filter (λ (b : BookingRow). b.leaf == j) l)) e ∙ h.each j;
})

pub booked_alike : (t u : Tables) (g : GroupRow) → u.bookings ≡ t.bookings → (bookings_of t g ≡ []) ⊎ IsBooked t g → (bookings_of u g ≡ []) ⊎ IsBooked u g
booked_alike t u g e h = booked_as_before t u g (ap (filter (λ (b : BookingRow). b.group == g.id)) e) h

module _ (t : Tables) (row : AnyRow) (s : IsSound t) (fit : Suits t row) where
  pub put_booked : (g : GroupRow) → Contains (with_row t row).groups g → (bookings_of (with_row t row) g ≡ []) ⊎ IsBooked (with_row t row) g
  put_booked g c =
      let rest = rest_put t row fit.unbooked in
      let old = in_put t row GroupTable (Group g) (in_mapped Group g (with_row t row).groups (in_from_contains (with_row t row).groups g c)) in
      elim (new_or_old Group same_group row t.groups g old) [
        | inl e ↦
            let open_group = not-true (is_booked t g.id) (subst (λ x. is_unbooked t x ≡ true) (sym e) fit.unbooked) in
            booked_alike t (with_row t row) g rest.0 (inl (none_filtered (λ (b : BookingRow). b.group == g.id) t.bookings open_group))
        | inr i ↦ booked_alike t (with_row t row) g rest.0 (s.keeps Booked (id_key GroupTable g.id) g (contains_from_in t.groups g i) refl)
      ]

-- ---- all of them

-- a row that suits sound tables, and with which the standing bookings fit, leaves them sound
pub sound_with_row : (t : Tables) (row : AnyRow) → IsSound t → Suits t row → Fits (with_row t row) (map ask_of t.bookings) → IsSound (with_row t row)
sound_with_row t row s fit room = sound_by_table (with_row t row) (record {
  order = keys_rise_put t row (λ table. keys_rise t table s);
  limit = put_limit t row s fit;
  field = put_field t row s fit;
  citation = put_citation t row s fit;
  fits = subst (λ l. Fits (with_row t row) (map ask_of l)) (sym (rest_put t row fit.unbooked).0) room;
  booked = put_booked t row s fit;
  count = put_count t row s fit;
})
