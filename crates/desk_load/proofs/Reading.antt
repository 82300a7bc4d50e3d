-- What is found in an index.
use Rattle.std.proofs.Common.{◌≡◌, ℕ, Bool, true, false, cond, ◌||◌, ◌==◌, List, [], ◌∷◌, map, Some, inl, inr, refl, sym, ap, ◌∙◌, subst, arith}
use Rattle.std.proofs.lemmas.Bool.{false≢true}
use Rattle.std.proofs.lemmas.Bool.Decides.{nat_tests}
use Rattle.std.specs.Prelude.{filter, find}
use Rattle.std.specs.List.{list_any}
use Rattle.std.specs.Option.{option_map_or}
use Rattle.desk_base.specs.declared.rows.tables.Tables.{Tables}
use Rattle.desk_base.specs.declared.rows.tables.Key.{Key}
use Rattle.desk_base.specs.declared.rows.bookings.BookingRow.{BookingRow}
use Rattle.desk_base.specs.declared.rows.resources.ResourceRow.{ResourceRow}
use Rattle.desk_base.specs.declared.rows.groups.GroupRow.{GroupRow}
use Rattle.desk_base.specs.declared.rows.tables.Table.TheVariants.{Resource as ResourceTable, Group as GroupTable}
use Rattle.desk_base.specs.declared.rows.tables.AnyRow.TheVariants.{Booking, Resource, Group}
use Rattle.desk_base.specs.rows.Keys.{id_key}
use Rattle.desk_base.specs.rows.Rows.{key_of, keys_in, citations_of}
use Rattle.desk_base.specs.rules.Sound.{AreWellFormed}
use Rattle.desk_base.proofs.lists.Members.{IsIn, in-map, in_mapped, contains_from_in, in_from_contains}
use Rattle.desk_base.proofs.lists.Filtered.{none_pass}
use Rattle.desk_base.specs.rows.Ranges.{owns}
use Rattle.desk_load.specs.declared.lists.BookingList.{BookingList}
use Rattle.desk_load.specs.Lists.{lists_of, list_under}
use Rattle.desk_load.specs.Index.{resource_numbers, group_numbers, IsIndexOf}
use Rattle.desk_load.specs.Parted.{IndexParts}

same : (a b : ℕ) → a ≡ b → (a == b) ≡ true
same a b e = grind (arith, nat_tests)

equal : (a b : ℕ) → (a == b) ≡ true → a ≡ b
equal a b e = grind (arith, nat_tests)

named : (n : ℕ) (names : List ℕ) → IsIn n names → list_any (λ k. k == n) names ≡ true
named n [] i = absurd i
named n (k ∷ names) (inl e) = ap (λ b. b || list_any (λ k. k == n) names) (same k n (sym e))
named n (k ∷ names) (inr i) = step (k == n) (named n names i)
  where
    step : (b : Bool) → list_any (λ k. k == n) names ≡ true → (b || list_any (λ k. k == n) names) ≡ true
    step true h = refl
    step false h = h

resource_named : (t : Tables) (b : BookingRow) → AreWellFormed t → IsIn b t.bookings → list_any (λ k. k == b.resource) (resource_numbers t) ≡ true
resource_named t b w i =
    let c = w.citation (key_of (Booking b)) (Booking b) (id_key ResourceTable b.resource) (contains_from_in (map Booking t.bookings) (Booking b) (in_mapped Booking b t.bookings i)) refl (contains_from_in (citations_of (Booking b)) (id_key ResourceTable b.resource) (inr (inl refl))) in
    let k = in-map key_of (id_key ResourceTable b.resource) (map Resource t.resources) (in_from_contains (keys_in t ResourceTable) (id_key ResourceTable b.resource) c) in
    let x = in-map Resource k.0 t.resources k.1 in
    let e : b.resource ≡ x.0.id = ap (λ (k : Key). k.a) (k.2 ∙ ap key_of x.2) in
    named b.resource (resource_numbers t) (subst (λ n. IsIn n (resource_numbers t)) (sym e) (in_mapped (λ (x : ResourceRow). x.id) x.0 t.resources x.1))

pub group_named : (t : Tables) (b : BookingRow) → AreWellFormed t → IsIn b t.bookings → list_any (λ k. k == b.group) (group_numbers t) ≡ true
group_named t b w i =
    let c = w.citation (key_of (Booking b)) (Booking b) (id_key GroupTable b.group) (contains_from_in (map Booking t.bookings) (Booking b) (in_mapped Booking b t.bookings i)) refl (contains_from_in (citations_of (Booking b)) (id_key GroupTable b.group) (inl refl)) in
    let k = in-map key_of (id_key GroupTable b.group) (map Group t.groups) (in_from_contains (keys_in t GroupTable) (id_key GroupTable b.group) c) in
    let x = in-map Group k.0 t.groups k.1 in
    let e : b.group ≡ x.0.id = ap (λ (k : Key). k.a) (k.2 ∙ ap key_of x.2) in
    named b.group (group_numbers t) (subst (λ n. IsIn n (group_numbers t)) (sym e) (in_mapped (λ (x : GroupRow). x.id) x.0 t.groups x.1))

pub under : (f : BookingRow → ℕ) (n : ℕ) (names : List ℕ) (bs : List BookingRow) → list_under n (lists_of f names bs) ≡ cond (list_any (λ k. k == n) names) (filter (owns f n) bs) []
under f n [] bs = refl
under f n (k ∷ names) bs = step (k == n) refl (under f n names bs)
  where
    step : (b : Bool) → (k == n) ≡ b → list_under n (lists_of f names bs) ≡ cond (list_any (λ k. k == n) names) (filter (owns f n) bs) []
        → option_map_or (λ (l : BookingList). l.bookings) (cond b (Some (record { number = k; bookings = filter (owns f k) bs })) (find (owns (λ (l : BookingList). l.number) n) (lists_of f names bs))) [] ≡ cond (b || list_any (λ k. k == n) names) (filter (owns f n) bs) []
    step true e h = ap (λ j. filter (owns f j) bs) (equal k n e)
    step false e h = h

module _ (f : BookingRow → ℕ) (names : List ℕ) (bs : List BookingRow) (all : (b : BookingRow) → IsIn b bs → list_any (λ k. k == f b) names ≡ true) where
  -- where a number has no list, no booking belongs to it
  unnamed : (n : ℕ) → list_any (λ k. k == n) names ≡ false → filter (owns f n) bs ≡ []
  unnamed n e = none_pass (owns f n) bs (λ b i. other b (f b == n) refl (all b i))
    where
      other : (b : BookingRow) (c : Bool) → (f b == n) ≡ c → list_any (λ k. k == f b) names ≡ true → c ≡ false
      other b true g h = absurd (false≢true (sym e ∙ subst (λ m. list_any (λ k. k == m) names ≡ true) (equal (f b) n g) h))
      other b false g h = refl

  listed_under : (n : ℕ) → list_under n (lists_of f names bs) ≡ filter (owns f n) bs
  listed_under n = under f n names bs ∙ step (list_any (λ k. k == n) names) refl
    where
      step : (b : Bool) → list_any (λ k. k == n) names ≡ b → cond b (filter (owns f n) bs) [] ≡ filter (owns f n) bs
      step true e = refl
      step false e = sym (unnamed n e)

pub standing_under : (t : Tables) (i : IndexParts) (n : ℕ) → AreWellFormed t → IsIndexOf t i → list_under n i.standing ≡ filter (owns (λ (b : BookingRow). b.resource) n) t.bookings
standing_under t i n w h = ap (list_under n) h.standing ∙ listed_under (λ (b : BookingRow). b.resource) (resource_numbers t) t.bookings (λ b j. resource_named t b w j) n

pub booked_under : (t : Tables) (i : IndexParts) (n : ℕ) → AreWellFormed t → IsIndexOf t i → list_under n i.booked ≡ filter (owns (λ (b : BookingRow). b.group) n) t.bookings
booked_under t i n w h = ap (list_under n) h.booked ∙ listed_under (λ (b : BookingRow). b.group) (group_numbers t) t.bookings (λ b j. group_named t b w j) n
