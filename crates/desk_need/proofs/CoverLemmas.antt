-- Spans that cover a time hold each minute of it, and memberships are such spans.
use Rattle.std.proofs.Common.{◌≡◌, ℕ, ◌-◌, ◌<◌, ◌≤◌, Bool, true, false, cond, ◌&&◌, ◌||◌, ◌==◌, min, max, map, List, [], ◌∷◌, ◌⊎◌, inl, inr, refl, sym, ap, ◌∙◌, arith, nat_le}
use Rattle.std.proofs.lemmas.Bool.{false≢true}
use Rattle.std.proofs.lemmas.Bool.Decides.{nat_tests}
use Rattle.std.specs.Prelude.{filter}
use Rattle.std.specs.List.{list_any, list_all, range_with_len}
use Rattle.desk_base.specs.declared.rows.tables.Tables.{Tables}
use Rattle.desk_base.specs.declared.rows.resources.MemberRow.{MemberRow}
use Rattle.desk_base.specs.meaning.Time.{covers}
use Rattle.desk_base.specs.meaning.Load.{members}
use Rattle.desk_base.proofs.lists.Tests.{and_left, and_right, and_both, list_all_at, list_all_from, in_range, from_range}
use Rattle.desk_need.specs.Covers.{are_covered}
use Rattle.desk_need.proofs.Begins.{or_cases, or_left, or_right}

-- ---- a cover

abbrev holds_at : ℕ → MemberRow → Bool
holds_at m x = covers x.from x.to m

covered_by : (from to m k : ℕ) → nat_le from m ≡ true → nat_le to m ≡ false → covers from to m ≡ true
covered_by from to m k a b = grind (arith, nat_tests)

beyond : (a b : ℕ) → nat_le a b ≡ true → a ≤ b
beyond a b e = grind (arith, nat_tests)

not_beyond : (a b : ℕ) → nat_le a b ≡ false → b < a
not_beyond a b e = grind (arith, nat_tests)

is_covering : (from to m : ℕ) → from ≤ m → m < to → covers from to m ≡ true
is_covering from to m a b = grind (arith, nat_tests)

is_covering_from : (from to m : ℕ) → covers from to m ≡ true → (from ≤ m) × (m < to)
is_covering_from from to m e = (grind (arith, nat_tests), grind (arith, nat_tests))

-- a minute lies before a span, in it or behind it
sides : (from to m : ℕ) → ((m < from) ⊎ (to ≤ m)) ⊎ (covers from to m ≡ true)
sides from to m = step (nat_le from m) (nat_le to m) refl refl
  where
    step : (a b : Bool) → nat_le from m ≡ a → nat_le to m ≡ b → ((m < from) ⊎ (to ≤ m)) ⊎ (covers from to m ≡ true)
    step false b e f = inl (inl (not_beyond from m e))
    step true true e f = inl (inr (beyond to m f))
    step true false e f = inr (is_covering from to m (beyond from m e) (not_beyond to m f))

-- each minute of a covered time is in a span
pub covered_at : (xs : List MemberRow) (from to m : ℕ) → are_covered xs from to ≡ true → from ≤ m → m < to → list_any (holds_at m) xs ≡ true
covered_at [] from to m e l h = absurd (omega (arith, beyond to from e))
covered_at (x ∷ xs) from to m e l h = elim (or_cases (nat_le to from) (are_covered xs from (min to x.from) && are_covered xs (max from x.to) to) e) [
  | inl k ↦ absurd (omega (arith, beyond to from k))
  | inr k ↦
      let before = and_left (are_covered xs from (min to x.from)) (are_covered xs (max from x.to) to) k in
      let after = and_right (are_covered xs from (min to x.from)) (are_covered xs (max from x.to) to) k in
      elim (sides x.from x.to m) [
        | inr c ↦ or_left (covers x.from x.to m) (list_any (holds_at m) xs) c
        | inl s ↦ or_right (covers x.from x.to m) (list_any (holds_at m) xs) (elim s [
          | inl b ↦ covered_at xs from (min to x.from) m before l (omega arith)
          | inr a ↦ covered_at xs (max from x.to) to m after (omega arith) h
        ])
      ]
]

-- where each minute is in a span the time is covered
pub covered_from : (xs : List MemberRow) (from to : ℕ) → ((m : ℕ) → from ≤ m → m < to → list_any (holds_at m) xs ≡ true) → are_covered xs from to ≡ true
covered_from [] from to h = step (nat_le to from) refl
  where
    step : (b : Bool) → nat_le to from ≡ b → b ≡ true
    step true e = refl
    step false e = absurd (false≢true (h from (omega arith) (not_beyond to from e)))
covered_from (x ∷ xs) from to h =
    or_right (nat_le to from) (are_covered xs from (min to x.from) && are_covered xs (max from x.to) to)
    (and_both (are_covered xs from (min to x.from)) (are_covered xs (max from x.to) to)
    (covered_from xs from (min to x.from) (λ m l k. elsewhere m (h m l (omega arith)) (λ c. let i = is_covering_from x.from x.to m c in omega (arith, i.0, k))))
    (covered_from xs (max from x.to) to (λ m l k. elsewhere m (h m (omega arith) k) (λ c. let i = is_covering_from x.from x.to m c in omega (arith, i.1, l)))))
  where
    elsewhere : (m : ℕ) → (covers x.from x.to m || list_any (holds_at m) xs) ≡ true → (covers x.from x.to m ≡ true → ⊥) → list_any (holds_at m) xs ≡ true
    elsewhere m e out = elim (or_cases (covers x.from x.to m) (list_any (holds_at m) xs) e) [ inl c ↦ absurd (out c) | inr r ↦ r ]

-- ---- tests that agree

both_ways : (a b : Bool) → (a ≡ true → b ≡ true) → (b ≡ true → a ≡ true) → a ≡ b
both_ways true b f g = sym (f refl)
both_ways false true f g = g refl
both_ways false false f g = refl

pub all_same : {A : Type 0} (p q : A → Bool) (xs : List A) → ((x : A) → p x ≡ q x) → list_all p xs ≡ list_all q xs
all_same p q [] h = refl
all_same p q (x ∷ xs) h = ap (λ b. b && list_all p xs) (h x) ∙ ap (λ b. q x && b) (all_same p q xs h)

pub covered_range : (xs : List MemberRow) (from to : ℕ) → are_covered xs from to ≡ list_all (λ m. list_any (holds_at m) xs) (range_with_len from (to - from))
covered_range xs from to =
    both_ways (are_covered xs from to) (list_all (λ m. list_any (holds_at m) xs) (range_with_len from (to - from)))
    (λ e. list_all_from (λ m. list_any (holds_at m) xs) (range_with_len from (to - from)) (λ m i. let r = from_range m from (to - from) i in covered_at xs from to m e r.0 (omega (arith, r.0, r.1))))
    (λ e. covered_from xs from to (λ m l k. list_all_at (λ n. list_any (holds_at n) xs) (range_with_len from (to - from)) m e (in_range m from (to - from) l (omega arith))))

-- ---- memberships

-- r is a member of g at m by one of the rows of g and r
member_at : (g r m : ℕ) (xs : List MemberRow) → list_any (holds_at m) (filter (λ x. (x.group == g) && (x.member == r)) xs) ≡ list_any (λ x. x == r) (map (λ x. x.member) (filter (λ x. (x.group == g) && covers x.from x.to m) xs))
member_at g r m [] = refl
member_at g r m (x ∷ xs) = step (x.group == g) (x.member == r) (covers x.from x.to m) refl refl refl (member_at g r m xs)
  where
    fs : List MemberRow
    fs = filter (λ y. (y.group == g) && (y.member == r)) xs

    gs : List MemberRow
    gs = filter (λ y. (y.group == g) && covers y.from y.to m) xs

    step : (a b c : Bool) → (x.group == g) ≡ a → (x.member == r) ≡ b → covers x.from x.to m ≡ c
        → list_any (holds_at m) (filter (λ y. (y.group == g) && (y.member == r)) xs) ≡ list_any (λ y. y == r) (map (λ y. y.member) (filter (λ y. (y.group == g) && covers y.from y.to m) xs))
        → list_any (holds_at m) (cond (a && b) (x ∷ filter (λ y. (y.group == g) && (y.member == r)) xs) (filter (λ y. (y.group == g) && (y.member == r)) xs))
        ≡ list_any (λ y. y == r) (map (λ y. y.member) (cond (a && c) (x ∷ filter (λ y. (y.group == g) && covers y.from y.to m) xs) (filter (λ y. (y.group == g) && covers y.from y.to m) xs)))
    step false b c d e f h = h
    step true true true d e f h = or_left (covers x.from x.to m) _ f ∙ sym (or_left (x.member == r) _ e)
    step true true false d e f h = ap (λ z. z || list_any (holds_at m) (filter (λ y. (y.group == g) && (y.member == r)) xs)) f ∙ h
    step true false true d e f h = h ∙ sym (ap (λ z. z || list_any (λ y. y == r) (map (λ y. y.member) (filter (λ y. (y.group == g) && covers y.from y.to m) xs))) e)
    step true false false d e f h = h

pub throughout : (t : Tables) (g r from to : ℕ) → are_covered (filter (λ x. (x.group == g) && (x.member == r)) t.members) from to ≡ list_all (λ m. list_any (λ x. x == r) (members t g m)) (range_with_len from (to - from))
throughout t g r from to =
    covered_range (filter (λ x. (x.group == g) && (x.member == r)) t.members) from to
    ∙ all_same (λ m. list_any (holds_at m) (filter (λ x. (x.group == g) && (x.member == r)) t.members)) (λ m. list_any (λ x. x == r) (members t g m)) (range_with_len from (to - from)) (λ m. member_at g r m t.members)

pub all_range_same : (p : ℕ → Bool) (a b c d : ℕ) → a ≡ c → b ≡ d → list_all p (range_with_len a (b - a)) ≡ list_all p (range_with_len c (d - c))
all_range_same p a b c d e f = ap (λ x. list_all p (range_with_len x (b - x))) e ∙ ap (λ x. list_all p (range_with_len c (x - c))) f
