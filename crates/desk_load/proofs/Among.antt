-- The first place at which the standing bookings are above the room of some resources, with a resource more, and of all.
use Rattle.std.proofs.Common.{◌≡◌, ℕ, ◌≤◌, ◌<◌, Bool, true, false, cond, not, ◌==◌, List, [], ◌∷◌, ◌++◌, map, Option, Some, None, ◌⊎◌, inl, inr, refl, sym, ap, ◌∙◌, subst, arith}
use Rattle.std.proofs.lemmas.Bool.Decides.{nat_tests}
use Rattle.std.specs.Prelude.{filter, Contains, IfSome}
use Rattle.desk_base.specs.declared.rows.tables.Tables.{Tables}
use Rattle.desk_base.specs.declared.rows.bookings.BookingRow.{BookingRow}
use Rattle.desk_base.specs.declared.asked.refusals.Clash.{Clash}
use Rattle.desk_base.specs.asked.Steps.{IsConflict}
use Rattle.desk_base.specs.rules.Limits.{first_minute, end_of_minutes}
use Rattle.desk_base.specs.meaning.Time.{IsMinute}
use Rattle.desk_base.specs.meaning.Load.{weight, room, ask_of}
use Rattle.desk_base.proofs.lists.Members.{contains_from_in, in_from_contains}
use Rattle.desk_base.proofs.lists.Filtered.{none_pass}
use Rattle.desk_base.proofs.lists.Tests.{some_or_none}
use Rattle.desk_spans.specs.Minutes.{EachMinute}
use Rattle.desk_load.specs.declared.view.places.Place.{Place}
use Rattle.desk_load.specs.Clashes.{is_before, earlier, IsOver, IsFirstOver}
use Rattle.desk_load.specs.Overs.{BearsStanding, IsOverAmong, IsFirstAmong, end_of_search}
use Rattle.desk_load.specs.Views.{ViewParts, is_own, own_asks, other_asks}
use Rattle.desk_load.proofs.Scanned.{either, append_nothing}
use Rattle.desk_load.proofs.Over.{before_is, not_before}

-- ---- one resource at a minute

module _ (t : Tables) (r k : ℕ) where
  pub bears_nothing : weight t (map ask_of t.bookings) r k ≡ 0 → BearsStanding t r k
  bears_nothing e = by (room t r k)
    where
      by : (b : Option ℕ) → IfSome b (λ n. weight t (map ask_of t.bookings) r k ≤ n)
      by None = tt
      by (Some n) = omega (arith, e)

  pub bears_unbounded : room t r k ≡ None → BearsStanding t r k
  bears_unbounded e = subst (λ b. IfSome b (λ n. weight t (map ask_of t.bookings) r k ≤ n)) (sym e) tt

  pub bears_within : (n : ℕ) → room t r k ≡ Some n → weight t (map ask_of t.bookings) r k ≤ n → BearsStanding t r k
  bears_within n e l = subst (λ b. IfSome b (λ n. weight t (map ask_of t.bookings) r k ≤ n)) (sym e) l

  pub bears_not : (n : ℕ) → room t r k ≡ Some n → n < weight t (map ask_of t.bookings) r k → BearsStanding t r k → ⊥
  bears_not n e l w = above (subst (λ b. IfSome b (λ n. weight t (map ask_of t.bookings) r k ≤ n)) e w)
    where
      above : weight t (map ask_of t.bookings) r k ≤ n → ⊥
      above h = omega (arith, h, l)

-- ---- one resource more

module _ (t : Tables) (seen : List ℕ) (r : ℕ) where
  -- a minute at which r is the first that is known to be above its room
  record IsNew (m : ℕ) : Type 0 where
    minute : IsMinute m
    over : BearsStanding t r m → ⊥
    before : EachMinute first_minute m (λ k. BearsStanding t r k)

  pub among_kept : (found : Option Place) → EachMinute first_minute (end_of_search found) (λ k. BearsStanding t r k) → IsFirstAmong t seen found → IsFirstAmong t (seen ++ r ∷ []) found
  among_kept None h f = λ q k c i. elim (either seen r q c) [ inl j ↦ f q k j i | inr e ↦ subst (λ x. BearsStanding t x k) (sym e) (h k i.0 i.1) ]
  among_kept (Some p) h f = record {
    minute = f.minute;
    over = f.over;
    sooner = λ q k c i l. elim (either seen r q c) [ inl j ↦ f.sooner q k j i l | inr e ↦ subst (λ x. BearsStanding t x k) (sym e) (h k i.0 (omega (arith, l))) ];
    lower = λ q c l. elim (either seen r q c) [ inl j ↦ f.lower q j l | inr e ↦ subst (λ x. BearsStanding t x p.minute) (sym e) (h p.minute f.minute.0 (omega arith)) ];
  }

  takes_new : (p : Place) (m : ℕ) → IsOverAmong t seen p → IsNew m → (m < p.minute) ⊎ ((m ≡ p.minute) × (r < p.resource)) → IsOverAmong t (seen ++ r ∷ []) (record { resource = r; minute = m })
  takes_new p m f n h = record {
    minute = n.minute;
    over = n.over;
    sooner = λ q k c i l. elim (either seen r q c) [ inl j ↦ f.sooner q k j i (omega (arith, l, at_most)) | inr e ↦ subst (λ x. BearsStanding t x k) (sym e) (n.before k i.0 l) ];
    lower = λ q c l. elim (either seen r q c) [ inl j ↦ by q j l h | inr e ↦ absurd (omega (arith, e, l)) ];
  }
    where
      at_most : m ≤ p.minute
      at_most = elim h [ inl s ↦ omega arith | inr e ↦ omega (arith, e.0) ]

      by : (q : ℕ) → Contains seen q → q < r → (m < p.minute) ⊎ ((m ≡ p.minute) × (r < p.resource)) → BearsStanding t q m
      by q j l (inl s) = f.sooner q m j n.minute s
      by q j l (inr e) = subst (λ k. BearsStanding t q k) (sym e.0) (f.lower q j (omega (arith, l, e.1)))

  keeps_found : (p : Place) (m : ℕ) → IsOverAmong t seen p → IsNew m → m ≤ p.minute → (p.minute < m) ⊎ ((p.minute ≡ m) × (p.resource ≤ r)) → IsOverAmong t (seen ++ r ∷ []) p
  keeps_found p m f n a (inl s) = absurd (omega (arith, a, s))
  keeps_found p m f n a (inr h) = record {
    minute = f.minute;
    over = f.over;
    sooner = λ q k c i l. elim (either seen r q c) [ inl j ↦ f.sooner q k j i l | inr e ↦ subst (λ x. BearsStanding t x k) (sym e) (n.before k i.0 (omega (arith, l, h.0))) ];
    lower = λ q c l. elim (either seen r q c) [ inl j ↦ f.lower q j l | inr e ↦ absurd (omega (arith, e, l, h.1)) ];
  }

  with_new : (found : Option Place) (m : ℕ) → m < end_of_search found → IsNew m → IsFirstAmong t seen found → IsOverAmong t (seen ++ r ∷ []) (earlier found (record { resource = r; minute = m }))
  with_new None m l n f = record {
    minute = n.minute;
    over = n.over;
    sooner = λ q k c i l. elim (either seen r q c) [ inl j ↦ f q k j i | inr e ↦ subst (λ x. BearsStanding t x k) (sym e) (n.before k i.0 l) ];
    lower = λ q c l. elim (either seen r q c) [ inl j ↦ f q m j n.minute | inr e ↦ absurd (omega (arith, e, l)) ];
  }
  with_new (Some p) m l n f = by (is_before (record { resource = r; minute = m }) p) refl
    where
      by : (b : Bool) → is_before (record { resource = r; minute = m }) p ≡ b → IsOverAmong t (seen ++ r ∷ []) (cond b (record { resource = r; minute = m }) p)
      by true e = takes_new p m f n (before_is (record { resource = r; minute = m }) p e)
      by false e = keeps_found p m f n (omega (arith, l)) (not_before (record { resource = r; minute = m }) p e)

  pub among_new : (found : Option Place) (m : ℕ) → first_minute ≤ m → m < end_of_search found → end_of_search found ≤ end_of_minutes → (BearsStanding t r m → ⊥) → EachMinute first_minute m (λ k. BearsStanding t r k) → IsFirstAmong t seen found → IsOverAmong t (seen ++ r ∷ []) (earlier found (record { resource = r; minute = m }))
  among_new found m a l b o h f = with_new found m l (record { minute = (a, omega (arith, l, b)); over = o; before = h }) f

pub search_inside : (found : Option Place) → IfSome found (λ p. IsMinute p.minute) → end_of_search found ≤ end_of_minutes
search_inside None h = omega arith
search_inside (Some p) h = omega (arith, h.1)

pub found_inside : (t : Tables) (seen : List ℕ) (found : Option Place) → IsFirstAmong t seen found → IfSome found (λ p. IsMinute p.minute)
found_inside t seen None f = tt
found_inside t seen (Some p) f = f.minute

pub among_nothing : (t : Tables) → IsFirstAmong t [] None
among_nothing t = λ r m c i. absurd (in_from_contains [] r c)

-- ---- of all resources

-- a resource is among them, or it is not
is_among : (seen : List ℕ) (r : ℕ) → Contains seen r ⊎ (Contains seen r → ⊥)
is_among seen r = elim (some_or_none (λ q. q == r) seen) [ inl f ↦ inl (subst (Contains seen) (equal f.0 r f.2) (contains_from_in seen f.0 f.1)) | inr n ↦ inr (λ c. differs r (n r (in_from_contains seen r c))) ]
  where
    equal : (q r : ℕ) → (q == r) ≡ true → q ≡ r
    equal q r e = grind (arith, nat_tests)

    differs : (r : ℕ) → (r == r) ≡ false → ⊥
    differs r e = grind (arith, nat_tests)

module _ (t : Tables) (seen : List ℕ) (others : (r m : ℕ) → IsMinute m → (Contains seen r → ⊥) → BearsStanding t r m) where
  pub among_whole : (found : Option Place) → IsFirstAmong t seen found → IsFirstOver t (map ask_of t.bookings) found
  among_whole None f = record { at = λ r m i. elim (is_among seen r) [ inl c ↦ f r m c i | inr n ↦ others r m i n ] }
  among_whole (Some p) f = record {
    minute = f.minute;
    over = f.over;
    sooner = λ r m i l. elim (is_among seen r) [ inl c ↦ f.sooner r m c i l | inr n ↦ others r m i n ];
    lower = λ r l. elim (is_among seen r) [ inl c ↦ f.lower r c l | inr n ↦ others r p.minute f.minute n ];
  }

-- without a group that is left out, the others are all
pub all_are_others : (bookings : List BookingRow) → filter (λ b. not (is_own None b)) bookings ≡ bookings
all_are_others [] = refl
all_are_others (b ∷ bs) = ap (λ l. b ∷ l) (all_are_others bs)

pub nothing_own : (t : Tables) → own_asks t None ≡ []
nothing_own t = ap (map ask_of) (none_pass (λ (b : BookingRow). false) t.bookings (λ b i. refl))

-- ---- in a view of all that stands

module _ (t : Tables) (v : ViewParts) (same : v.tables ≡ t) (whole : v.without ≡ None) where
  all_asks : other_asks t None ++ [] ≡ map ask_of t.bookings
  all_asks = append_nothing (other_asks t None) ∙ ap (map ask_of) (all_are_others t.bookings)

  pub over_in_view : (p : Place) → IsOver t (map ask_of t.bookings) p → IsOver v.tables (other_asks v.tables v.without ++ []) p
  over_in_view p o =
      subst (λ w. IsOver v.tables (other_asks v.tables w ++ []) p) (sym whole)
      (subst (λ u. IsOver u (other_asks u None ++ []) p) (sym same) (subst (λ l. IsOver t l p) (sym all_asks) o))

  pub conflict_in_view : (c : Clash) → IsConflict v.tables (filter (λ b. not (is_own v.without b)) v.tables.bookings) [] c → IsConflict t t.bookings [] c
  conflict_in_view c k =
      subst (λ bs. IsConflict t bs [] c) (all_are_others t.bookings)
      (subst (λ u. IsConflict u (filter (λ b. not (is_own None b)) u.bookings) [] c) same
      (subst (λ w. IsConflict v.tables (filter (λ b. not (is_own w b)) v.tables.bookings) [] c) whole k))
