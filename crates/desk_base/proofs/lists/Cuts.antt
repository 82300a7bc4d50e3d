-- Where a test of rows that rise turns from true to false, and what lies on both sides.
use Rattle.std.proofs.Common.{◌≡◌, ℕ, zero, suc, ◌<◌, ◌≤◌, Bool, true, false, cond, not, ◌&&◌, ◌||◌, ◌==◌, nat_lt, List, [], ◌∷◌, length, take, drop, get_or, ◌⊎◌, inl, inr, refl, sym, ap, ◌∙◌, arith}
use Rattle.std.proofs.lemmas.Bool.{false≢true}
use Rattle.std.proofs.lemmas.Bool.Decides.{nat_tests}
use Rattle.std.specs.Prelude.{filter, find, Some}
use Rattle.std.specs.List.{AllByRecursion, slice_get}
use Rattle.std.specs.List.Sorted.{IsPartitionPoint, IsPartitionedBy}
use Rattle.desk_base.specs.rows.Ranges.{Rise, IsUnder, owns, ranks}

-- once the test fails it fails from there on
abbrev pub IsCut : {A : Type 0} → (A → Bool) → List A → Type 0
IsCut p [] = Unit {0}
IsCut p (x ∷ xs) = (p x ≡ false → AllByRecursion (λ y. p y ≡ false) xs) × IsCut p xs

all_get : {A : Type 0} (P : A → Type 0) (xs : List A) (i : ℕ) (d : A) → AllByRecursion P xs → i < length xs → P (get_or xs i d)
all_get P [] i d a l = absurd (omega arith)
all_get P (x ∷ xs) zero d a l = a.0
all_get P (x ∷ xs) (suc i) d a l = all_get P xs i d a.1 (omega arith)

true_or_not : (b : Bool) → (b ≡ true) ⊎ (b ≡ false)
true_or_not true = inl refl
true_or_not false = inr refl

pub cut_partitioned : {A : Type 0} (p : A → Bool) (xs : List A) → IsCut p xs → IsPartitionedBy p xs
cut_partitioned p [] c i j d l m e = absurd (omega arith)
cut_partitioned p (x ∷ xs) c zero zero d l m e = e
cut_partitioned p (x ∷ xs) c zero (suc j) d l m e = elim (true_or_not (p x)) [
  | inl t ↦ t
  | inr f ↦ absurd (false≢true (sym (all_get (λ y. p y ≡ false) xs j d (c.0 f) (omega arith)) ∙ e))
]
cut_partitioned p (x ∷ xs) c (suc i) zero d l m e = absurd (omega arith)
cut_partitioned p (x ∷ xs) c (suc i) (suc j) d l m e = cut_partitioned p xs c.1 i j d (omega arith) (omega arith) e

-- before the point are the rows that pass, and from it on those that do not
pub before_point : {A : Type 0} (p : A → Bool) (xs : List A) (i : ℕ) → i ≤ length xs → IsPartitionPoint (λ y. p y ≡ true) (λ y. p y ≡ false) xs i → take i xs ≡ filter p xs
before_point p [] zero b h = refl
before_point p [] (suc i) b h = refl
before_point p (x ∷ xs) zero b h =
    let e : p x ≡ false = h.1 0 x (omega arith) (omega arith) in
    let r = before_point p xs zero (omega arith) ((λ k d l m. absurd (omega arith)), (λ k d l m. h.1 (suc k) d (omega arith) (omega arith))) in
    sym (ap (λ b. cond b (x ∷ filter p xs) (filter p xs)) e ∙ sym r)
before_point p (x ∷ xs) (suc i) b h =
    let e : p x ≡ true = h.0 0 x (omega arith) (omega arith) in
    let r = before_point p xs i (omega arith) ((λ k d l m. h.0 (suc k) d (omega arith) (omega arith)), (λ k d l m. h.1 (suc k) d (omega arith) (omega arith))) in
    ap (λ l. x ∷ l) r ∙ sym (ap (λ b. cond b (x ∷ filter p xs) (filter p xs)) e)

pub from_point : {A : Type 0} (p : A → Bool) (xs : List A) (i : ℕ) → i ≤ length xs → IsPartitionPoint (λ y. p y ≡ true) (λ y. p y ≡ false) xs i → drop i xs ≡ filter (λ y. not (p y)) xs
from_point p [] zero b h = refl
from_point p [] (suc i) b h = refl
from_point p (x ∷ xs) zero b h =
    let e : p x ≡ false = h.1 0 x (omega arith) (omega arith) in
    let r = from_point p xs zero (omega arith) ((λ k d l m. absurd (omega arith)), (λ k d l m. h.1 (suc k) d (omega arith) (omega arith))) in
    ap (λ l. x ∷ l) r ∙ sym (ap (λ b. cond (not b) (x ∷ filter (λ y. not (p y)) xs) (filter (λ y. not (p y)) xs)) e)
from_point p (x ∷ xs) (suc i) b h =
    let e : p x ≡ true = h.0 0 x (omega arith) (omega arith) in
    let r = from_point p xs i (omega arith) ((λ k d l m. h.0 (suc k) d (omega arith) (omega arith)), (λ k d l m. h.1 (suc k) d (omega arith) (omega arith))) in
    r ∙ sym (ap (λ b. cond (not b) (x ∷ filter (λ y. not (p y)) xs) (filter (λ y. not (p y)) xs)) e)

pub all_step : {A : Type 0} (P Q : A → Type 0) (xs : List A) → ((x : A) → P x → Q x) → AllByRecursion P xs → AllByRecursion Q xs
all_step P Q [] h a = tt
all_step P Q (x ∷ xs) h a = (h x a.0, all_step P Q xs h a.1)

pub all_filter : {A : Type 0} (P : A → Type 0) (q : A → Bool) (xs : List A) → AllByRecursion P xs → AllByRecursion P (filter q xs)
all_filter P q [] a = tt
all_filter P q (x ∷ xs) a = keep (q x) (all_filter P q xs a.1)
  where
    keep : (b : Bool) → AllByRecursion P (filter q xs) → AllByRecursion P (cond b (x ∷ filter q xs) (filter q xs))
    keep true r = (a.0, r)
    keep false r = r

pub filter_passes : {A : Type 0} (q : A → Bool) (xs : List A) → AllByRecursion (λ x. q x ≡ true) (filter q xs)
filter_passes q [] = tt
filter_passes q (x ∷ xs) = keep (q x) refl (filter_passes q xs)
  where
    keep : (b : Bool) → q x ≡ b → AllByRecursion (λ x. q x ≡ true) (filter q xs) → AllByRecursion (λ x. q x ≡ true) (cond b (x ∷ filter q xs) (filter q xs))
    keep true e r = (e, r)
    keep false e r = r

-- a filter within a wider one
pub filter_within : {A : Type 0} (p q : A → Bool) (xs : List A) → ((x : A) → q x ≡ true → p x ≡ true) → filter q (filter p xs) ≡ filter q xs
filter_within p q [] h = refl
filter_within p q (x ∷ xs) h = keep (p x) (q x) refl refl (filter_within p q xs h)
  where
    keep : (b c : Bool) → p x ≡ b → q x ≡ c → filter q (filter p xs) ≡ filter q xs → filter q (cond b (x ∷ filter p xs) (filter p xs)) ≡ cond (q x) (x ∷ filter q xs) (filter q xs)
    keep true c e f rest = ap (λ l. cond (q x) (x ∷ l) l) rest
    keep false true e f rest = absurd (false≢true (sym e ∙ h x f))
    keep false false e f rest = rest ∙ sym (ap (λ b. cond b (x ∷ filter q xs) (filter q xs)) f)

module _ {A : Type 0} (owner rank : A → ℕ) where
  pub Rise-filter : (p : A → Bool) (xs : List A) → Rise owner rank xs → Rise owner rank (filter p xs)
  unfolding Rise
  Rise-filter p [] h = h
  Rise-filter p (x ∷ xs) h = keep (p x) (Rise-filter p xs h.1)
    where
      keep : (b : Bool) → Rise owner rank (filter p xs) → Rise owner rank (cond b (x ∷ filter p xs) (filter p xs))
      keep true r = (all_filter (IsUnder owner rank x) p xs h.0, r)
      keep false r = r

  -- ---- the rows of an owner

  abbrev pub is_below : ℕ → A → Bool
  is_below o x = nat_lt (owner x) o

  abbrev pub not_below : ℕ → A → Bool
  not_below o x = not (nat_lt (owner x) o)

  pub cut_below : (o : ℕ) (xs : List A) → Rise owner rank xs → IsCut (λ x. nat_lt (owner x) o) xs
  unfolding Rise
  cut_below o [] h = tt
  cut_below o (x ∷ xs) h = (
    λ e. all_step (IsUnder owner rank x) (λ y. nat_lt (owner y) o ≡ false) xs (λ y u. later y u (past (owner x) e)) h.0,
    cut_below o xs h.1,
  )
    where
      past : (a : ℕ) → nat_lt a o ≡ false → o ≤ a
      past a e = grind (arith, nat_tests)

      later : (y : A) → IsUnder owner rank x y → o ≤ owner x → nat_lt (owner y) o ≡ false
      later y (inl l) b = let c : o ≤ owner y = omega arith in grind (arith, nat_tests)
      later y (inr (e, l)) b = let c : o ≤ owner y = omega arith in grind (arith, nat_tests)

  pub cut_owns : (o : ℕ) (xs : List A) → Rise owner rank xs → AllByRecursion (λ x. not (nat_lt (owner x) o) ≡ true) xs → IsCut (owns owner o) xs
  unfolding Rise
  cut_owns o [] h a = tt
  cut_owns o (x ∷ xs) h a = (
    λ e. all_step (IsUnder owner rank x) (λ y. owns owner o y ≡ false) xs (λ y u. later y u (past (owner x) a.0 e)) h.0,
    cut_owns o xs h.1 a.1,
  )
    where
      past : (b : ℕ) → not (nat_lt b o) ≡ true → (b == o) ≡ false → o < b
      past b e f = grind (arith, nat_tests)

      apart : (b : ℕ) → o < b → (b == o) ≡ false
      apart b l = grind (arith, nat_tests)

      later : (y : A) → IsUnder owner rank x y → o < owner x → (owner y == o) ≡ false
      later y (inl l) b = apart (owner y) (omega arith)
      later y (inr (e, l)) b = apart (owner y) (omega arith)

  pub owned_passes : (o : ℕ) (x : A) → owns owner o x ≡ true → not (nat_lt (owner x) o) ≡ true
  owned_passes o x e = plain (owner x) e
    where
      plain : (b : ℕ) → (b == o) ≡ true → not (nat_lt b o) ≡ true
      plain b e = grind (arith, nat_tests)

  -- ---- the rows of an owner and a rank

  abbrev pub is_before : ℕ → ℕ → A → Bool
  is_before o r x = nat_lt (owner x) o || ((owner x == o) && nat_lt (rank x) r)

  abbrev pub not_before : ℕ → ℕ → A → Bool
  not_before o r x = not (is_before o r x)

  past_pair : (o r a b : ℕ) → (nat_lt a o || ((a == o) && nat_lt b r)) ≡ false → (o < a) ⊎ ((a ≡ o) × (r ≤ b))
  past_pair o r a b e = grind (arith, nat_tests)

  is_past_pair : (o r a b : ℕ) → (o < a) ⊎ ((a ≡ o) × (r ≤ b)) → (nat_lt a o || ((a == o) && nat_lt b r)) ≡ false
  is_past_pair o r a b (inl l) = grind (arith, nat_tests)
  is_past_pair o r a b (inr (e, l)) = grind (arith, nat_tests)

  further : (o r a b c d : ℕ) → (o < a) ⊎ ((a ≡ o) × (r ≤ b)) → (a < c) ⊎ ((a ≡ c) × (b ≤ d)) → (o < c) ⊎ ((c ≡ o) × (r ≤ d))
  further o r a b c d (inl l) (inl m) = inl (omega arith)
  further o r a b c d (inl l) (inr (e, m)) = inl (omega arith)
  further o r a b c d (inr (e, l)) (inl m) = inl (omega arith)
  further o r a b c d (inr (e, l)) (inr (f, m)) = inr (omega arith, omega arith)

  pub cut_before : (o r : ℕ) (xs : List A) → Rise owner rank xs → IsCut (is_before o r) xs
  unfolding Rise
  cut_before o r [] h = tt
  cut_before o r (x ∷ xs) h = (
    λ e. all_step (IsUnder owner rank x) (λ y. is_before o r y ≡ false) xs (λ y u. is_past_pair o r (owner y) (rank y) (further o r (owner x) (rank x) (owner y) (rank y) (past_pair o r (owner x) (rank x) e) u)) h.0,
    cut_before o r xs h.1,
  )

  beyond_pair : (o r a b : ℕ) → not (nat_lt a o || ((a == o) && nat_lt b r)) ≡ true → ((a == o) && (b == r)) ≡ false → (o < a) ⊎ ((a ≡ o) × (suc r ≤ b))
  beyond_pair o r a b e f = grind (arith, nat_tests)

  is_beyond_pair : (o r a b : ℕ) → (o < a) ⊎ ((a ≡ o) × (suc r ≤ b)) → ((a == o) && (b == r)) ≡ false
  is_beyond_pair o r a b (inl l) = grind (arith, nat_tests)
  is_beyond_pair o r a b (inr (e, l)) = grind (arith, nat_tests)

  pub cut_ranks : (o r : ℕ) (xs : List A) → Rise owner rank xs → AllByRecursion (λ x. not (is_before o r x) ≡ true) xs → IsCut (ranks owner rank o r) xs
  unfolding Rise
  cut_ranks o r [] h a = tt
  cut_ranks o r (x ∷ xs) h a = (
    λ e. all_step (IsUnder owner rank x) (λ y. ranks owner rank o r y ≡ false) xs (λ y u. is_beyond_pair o r (owner y) (rank y) (further o (suc r) (owner x) (rank x) (owner y) (rank y) (beyond_pair o r (owner x) (rank x) a.0 e) u)) h.0,
    cut_ranks o r xs h.1 a.1,
  )

  pub ranked_passes : (o r : ℕ) (x : A) → ranks owner rank o r x ≡ true → not (is_before o r x) ≡ true
  ranked_passes o r x e = plain (owner x) (rank x) e
    where
      plain : (a b : ℕ) → ((a == o) && (b == r)) ≡ true → not (nat_lt a o || ((a == o) && nat_lt b r)) ≡ true
      plain a b e = grind (arith, nat_tests)

-- the first of the rows that pass is the one that is found
pub first_found : {A : Type 0} (p : A → Bool) (xs : List A) → slice_get (filter p xs) 0 ≡ find p xs
first_found p [] = refl
first_found p (x ∷ xs) = keep (p x) (first_found p xs)
  where
    keep : (b : Bool) → slice_get (filter p xs) 0 ≡ find p xs → slice_get (cond b (x ∷ filter p xs) (filter p xs)) 0 ≡ cond b (Some x) (find p xs)
    keep true r = refl
    keep false r = r
