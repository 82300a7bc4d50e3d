-- The nearest bound of some rows: up to it each row holds what it held.
use Rattle.std.proofs.Common.{◌≡◌, ℕ, zero, suc, length, take, ◌<◌, ◌≤◌, Bool, true, false, cond, ◌&&◌, ◌||◌, nat_le, nat_lt, List, [], ◌∷◌, Some, ◌⊎◌, inl, inr, refl, sym, ap, ◌∙◌, arith, is_some}
use Rattle.std.proofs.lemmas.Bool.Decides.{nat_tests}
use Rattle.std.specs.Prelude.{filter, find}
use Rattle.std.specs.List.{AllByRecursion, list_any}
use Rattle.desk_base.specs.rows.Ranges.{holds, nearer, nearest_bound, AreStill}
use Rattle.desk_base.proofs.lists.Cuts.{all_step}

pub nearer_after : (m n k : ℕ) → m < n → m < nearer m n k
nearer_after m n k h = grind (arith, nat_tests)

pub nearer_below : (m n k : ℕ) → nearer m n k ≤ n
nearer_below m n k = grind (arith, nat_tests)

pub nearer_at : (m n k : ℕ) → m < k → nearer m n k ≤ k
nearer_at m n k h = grind (arith, nat_tests)

-- n is past neither bound that lies after m
abbrev pub IsUpTo : ℕ → ℕ → ℕ → ℕ → Type 0
IsUpTo m n f t = (m < f → n ≤ f) × (m < t → n ≤ t)

up_to_less : (m n n' f t : ℕ) → n' ≤ n → IsUpTo m n f t → IsUpTo m n' f t
up_to_less m n n' f t l h = ((λ a. omega (arith, h.0 a)), (λ a. omega (arith, h.1 a)))

module _ {A : Type 0} (from to : A → ℕ) (m : ℕ) where
  pub bound_below : (n : ℕ) (xs : List A) → nearest_bound from to m n xs ≤ n
  bound_below n [] = omega arith
  bound_below n (x ∷ xs) = omega (arith, bound_below (nearer m (nearer m n (from x)) (to x)) xs, nearer_below m (nearer m n (from x)) (to x), nearer_below m n (from x))

  pub bound_after : (n : ℕ) (xs : List A) → m < n → m < nearest_bound from to m n xs
  bound_after n [] h = h
  bound_after n (x ∷ xs) h = bound_after (nearer m (nearer m n (from x)) (to x)) xs (nearer_after m (nearer m n (from x)) (to x) (nearer_after m n (from x) h))

  bound_each : (n : ℕ) (xs : List A) → AllByRecursion (λ x. IsUpTo m (nearest_bound from to m n xs) (from x) (to x)) xs
  bound_each n [] = tt
  bound_each n (x ∷ xs) =
      let n1 = nearer m n (from x) in
      let n2 = nearer m n1 (to x) in
      let b = bound_below n2 xs in (
        ((λ h. omega (arith, b, nearer_below m n1 (to x), nearer_at m n (from x) h)), (λ h. omega (arith, b, nearer_at m n1 (to x) h))),
        bound_each n2 xs,
      )

  held : (f t n k : ℕ) → m ≤ k → k < n → IsUpTo m n f t → (nat_le f k && nat_lt k t) ≡ (nat_le f m && nat_lt m t)
  held f t n k a b h = both (begun (le_or f m)) (ended (le_or t m))
    where
      le_or : (a b : ℕ) → (a ≤ b) ⊎ (b < a)
      le_or a b = grind arith

      begun : (f ≤ m) ⊎ (m < f) → nat_le f k ≡ nat_le f m
      begun (inl l) = let i : f ≤ k = omega arith in grind (arith, nat_tests)
      begun (inr l) = let i : n ≤ f = h.0 l in let j : k < f = omega arith in grind (arith, nat_tests)

      ended : (t ≤ m) ⊎ (m < t) → nat_lt k t ≡ nat_lt m t
      ended (inl l) = let i : t ≤ k = omega arith in grind (arith, nat_tests)
      ended (inr l) = let i : n ≤ t = h.1 l in let j : k < t = omega arith in grind (arith, nat_tests)

      both : nat_le f k ≡ nat_le f m → nat_lt k t ≡ nat_lt m t → (nat_le f k && nat_lt k t) ≡ (nat_le f m && nat_lt m t)
      both e g = ap (λ b. b && nat_lt k t) e ∙ ap (λ b. nat_le f m && b) g

  pub bound_still : (n : ℕ) (xs : List A) → AreStill from to m (nearest_bound from to m n xs) xs
  bound_still n xs = record {
    at = λ k a b. all_step (λ x. IsUpTo m (nearest_bound from to m n xs) (from x) (to x)) (λ x. holds from to k x ≡ holds from to m x) xs (λ x h. held (from x) (to x) (nearest_bound from to m n xs) k a b h) (bound_each n xs);
  }

-- ---- tests that agree on each row

pub find_still : {A : Type 0} (p q : A → Bool) (xs : List A) → AllByRecursion (λ x. p x ≡ q x) xs → find p xs ≡ find q xs
find_still p q [] h = refl
find_still p q (x ∷ xs) h = ap (λ b. cond b (Some x) (find p xs)) h.0 ∙ ap (λ o. cond (q x) (Some x) o) (find_still p q xs h.1)

pub any_still : {A : Type 0} (p q : A → Bool) (xs : List A) → AllByRecursion (λ x. p x ≡ q x) xs → list_any p xs ≡ list_any q xs
any_still p q [] h = refl
any_still p q (x ∷ xs) h = ap (λ b. b || list_any p xs) h.0 ∙ ap (λ b. q x || b) (any_still p q xs h.1)

-- ---- what is found, and what some row passes

pub any_found : {A : Type 0} (p : A → Bool) (xs : List A) → list_any p xs ≡ is_some (find p xs)
any_found p [] = refl
any_found p (x ∷ xs) = step (p x) (any_found p xs)
  where
    step : (b : Bool) → list_any p xs ≡ is_some (find p xs) → (b || list_any p xs) ≡ is_some (cond b (Some x) (find p xs))
    step true r = refl
    step false r = r

pub found_passes : {A : Type 0} (p : A → Bool) (xs : List A) (x : A) → find p xs ≡ Some x → p x ≡ true
found_passes p [] x e = cc
found_passes {A} p (y ∷ ys) x e = step (p y) refl e (found_passes p ys x)
  where
    step : (b : Bool) → p y ≡ b → cond b (Some y) (find p ys) ≡ Some x → (find p ys ≡ Some x → p x ≡ true) → p x ≡ true
    step true f e r = let g : y ≡ x = cc in ap p (sym g) ∙ f
    step false f e r = r e

-- what the one that is found passes some row passes
pub found_among : {A : Type 0} (p q : A → Bool) (xs : List A) (x : A) → find p xs ≡ Some x → q x ≡ true → list_any q xs ≡ true
found_among p q [] x e t = cc
found_among {A} p q (y ∷ ys) x e t = step (p y) e (found_among p q ys x)
  where
    or_true : (b : Bool) → (b || true) ≡ true
    or_true true = refl
    or_true false = refl

    step : (b : Bool) → cond b (Some y) (find p ys) ≡ Some x → (find p ys ≡ Some x → q x ≡ true → list_any q ys ≡ true) → (q y || list_any q ys) ≡ true
    step true e r = let g : y ≡ x = cc in ap (λ b. b || list_any q ys) (ap q g ∙ t)
    step false e r = ap (λ b. q y || b) (r e t) ∙ or_true (q y)

-- ---- tests within a filter

pub any_within : {A : Type 0} (q p : A → Bool) (xs : List A) → list_any (λ x. q x && p x) xs ≡ list_any p (filter q xs)
any_within q p [] = refl
any_within q p (x ∷ xs) = step (q x) (any_within q p xs)
  where
    step : (b : Bool) → list_any (λ x. q x && p x) xs ≡ list_any p (filter q xs) → ((b && p x) || list_any (λ x. q x && p x) xs) ≡ list_any p (cond b (x ∷ filter q xs) (filter q xs))
    step true r = ap (λ b. p x || b) r
    step false r = r

pub find_within : {A : Type 0} (q p : A → Bool) (xs : List A) → find (λ x. q x && p x) xs ≡ find p (filter q xs)
find_within q p [] = refl
find_within q p (x ∷ xs) = step (q x) (find_within q p xs)
  where
    step : (b : Bool) → find (λ x. q x && p x) xs ≡ find p (filter q xs) → cond (b && p x) (Some x) (find (λ x. q x && p x) xs) ≡ find p (cond b (x ∷ filter q xs) (filter q xs))
    step true r = ap (λ o. cond (p x) (Some x) o) r
    step false r = r

and_assoc : (a b c : Bool) → (a && b && c) ≡ ((a && b) && c)
and_assoc true b c = refl
and_assoc false b c = refl

all_of : {A : Type 0} (P : A → Type 0) (xs : List A) → ((x : A) → P x) → AllByRecursion P xs
all_of P [] h = tt
all_of P (x ∷ xs) h = (h x, all_of P xs h)

pub any_within-two : {A : Type 0} (a b p : A → Bool) (xs : List A) → list_any (λ x. a x && b x && p x) xs ≡ list_any p (filter (λ x. a x && b x) xs)
any_within-two a b p xs = any_still (λ x. a x && b x && p x) (λ x. (a x && b x) && p x) xs (all_of (λ x. (a x && b x && p x) ≡ ((a x && b x) && p x)) xs (λ x. and_assoc (a x) (b x) (p x))) ∙ any_within (λ x. a x && b x) p xs

pub find_within-two : {A : Type 0} (a b p : A → Bool) (xs : List A) → find (λ x. a x && b x && p x) xs ≡ find p (filter (λ x. a x && b x) xs)
find_within-two a b p xs = find_still (λ x. a x && b x && p x) (λ x. (a x && b x) && p x) xs (all_of (λ x. (a x && b x && p x) ≡ ((a x && b x) && p x)) xs (λ x. and_assoc (a x) (b x) (p x))) ∙ find_within (λ x. a x && b x) p xs

-- whether some row passes, by the rows that do
abbrev pub some_row : {A : Type 0} → List A → Bool
some_row [] = false
some_row (x ∷ xs) = true

pub any_row : {A : Type 0} (q : A → Bool) (xs : List A) → list_any q xs ≡ some_row (filter q xs)
any_row q [] = refl
any_row q (x ∷ xs) = step (q x) (any_row q xs)
  where
    step : (b : Bool) → list_any q xs ≡ some_row (filter q xs) → (b || list_any q xs) ≡ some_row (cond b (x ∷ filter q xs) (filter q xs))
    step true r = refl
    step false r = r

pub take_whole : {A : Type 0} (xs : List A) (n : ℕ) → length xs ≤ n → take n xs ≡ xs
take_whole [] zero h = refl
take_whole [] (suc n) h = refl
take_whole (x ∷ xs) zero h = absurd (omega arith)
take_whole (x ∷ xs) (suc n) h = ap (λ l. x ∷ l) (take_whole xs n (omega arith))

-- after the walk over all rows
pub bound_all : {A : Type 0} (from to : A → ℕ) (m n next i : ℕ) (xs : List A) → next ≡ nearest_bound from to m n (take i xs) → length xs ≤ i → next ≡ nearest_bound from to m n xs
bound_all from to m n next i xs e l = e ∙ ap (nearest_bound from to m n) (take_whole xs i l)
