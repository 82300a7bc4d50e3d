-- Tests joined by `&&`, over a list, and over a range.
use Rattle.std.proofs.Common.{◌≡◌, ℕ, zero, suc, ◌+◌, ◌-◌, ◌<◌, ◌≤◌, Bool, true, false, ◌&&◌, ◌||◌, cond, List, [], ◌∷◌, Some, None, ◌⊎◌, inl, inr, refl, sym, ap, ◌∙◌, arith}
use Rattle.std.proofs.lemmas.Bool.{false≢true}
use Rattle.std.proofs.lemmas.List.Sums.{sum_by-cons}
use Rattle.std.specs.Prelude.{find, sum_by}
use Rattle.std.specs.List.{list_all, list_any, range_with_len}
use Rattle.desk_base.proofs.lists.Members.{IsIn}

-- ---- tests joined by `&&`

pub and_left : (a b : Bool) → (a && b) ≡ true → a ≡ true
and_left true b e = refl
and_left false b e = e

pub and_right : (a b : Bool) → (a && b) ≡ true → b ≡ true
and_right true b e = e
and_right false b e = absurd (false≢true e)

pub and_both : (a b : Bool) → a ≡ true → b ≡ true → (a && b) ≡ true
and_both true b e f = f
and_both false b e f = e

pub and-false : (a : Bool) → (a && false) ≡ false
and-false true = refl
and-false false = refl

-- ---- all and some elements of a list

pub list_all_at : {A : Type 0} (p : A → Bool) (xs : List A) (x : A) → list_all p xs ≡ true → IsIn x xs → p x ≡ true
list_all_at p [] x e i = absurd i
list_all_at p (y ∷ ys) x e (inl k) = ap p k ∙ and_left (p y) (list_all p ys) e
list_all_at p (y ∷ ys) x e (inr j) = list_all_at p ys x (and_right (p y) (list_all p ys) e) j

pub list_all_from : {A : Type 0} (p : A → Bool) (xs : List A) → ((x : A) → IsIn x xs → p x ≡ true) → list_all p xs ≡ true
list_all_from p [] h = refl
list_all_from p (y ∷ ys) h = and_both (p y) (list_all p ys) (h y (inl refl)) (list_all_from p ys (λ x i. h x (inr i)))

-- some element passes, or none does
some_step : {A : Type 0} (p : A → Bool) (y : A) (ys : List A) (b : Bool) → p y ≡ b → ((x : A) × IsIn x ys × (p x ≡ true)) ⊎ ((x : A) → IsIn x ys → p x ≡ false) → ((x : A) × IsIn x (y ∷ ys) × (p x ≡ true)) ⊎ ((x : A) → IsIn x (y ∷ ys) → p x ≡ false)
some_step p y ys true e h = inl (y, inl refl, e)
some_step p y ys false e (inl (x, i, t)) = inl (x, inr i, t)
some_step p y ys false e (inr h) = inr (λ x i. elim i [ inl k ↦ ap p k ∙ e | inr j ↦ h x j ])

pub some_or_none : {A : Type 0} (p : A → Bool) (xs : List A) → ((x : A) × IsIn x xs × (p x ≡ true)) ⊎ ((x : A) → IsIn x xs → p x ≡ false)
some_or_none p [] = inr (λ x i. absurd i)
some_or_none p (y ∷ ys) = some_step p y ys (p y) refl (some_or_none p ys)

pub list_any_at : {A : Type 0} (p : A → Bool) (xs : List A) → list_any p xs ≡ true → (x : A) × IsIn x xs × (p x ≡ true)
list_any_at p [] e = absurd (false≢true e)
list_any_at {A} p (y ∷ ys) e = step (p y) refl e (list_any_at p ys)
  where
    step : (b : Bool) → p y ≡ b → (b || list_any p ys) ≡ true → (list_any p ys ≡ true → (x : A) × IsIn x ys × (p x ≡ true)) → (x : A) × IsIn x (y ∷ ys) × (p x ≡ true)
    step true k e h = (y, inl refl, k)
    step false k e h = let r = h e in (r.0, inr r.1, r.2)

pub list_any_from : {A : Type 0} (p : A → Bool) (xs : List A) (x : A) → IsIn x xs → p x ≡ true → list_any p xs ≡ true
list_any_from p [] x i e = absurd i
list_any_from {A} p (y ∷ ys) x i e = step (p y) refl i (λ j. list_any_from p ys x j e)
  where
    step : (b : Bool) → p y ≡ b → IsIn x (y ∷ ys) → (IsIn x ys → list_any p ys ≡ true) → (b || list_any p ys) ≡ true
    step true k j h = refl
    step false k (inl q) h = absurd (false≢true (sym k ∙ sym (ap p q) ∙ e))
    step false k (inr j) h = h j

-- ---- what `find` gives

find_step : {A : Type 0} (p : A → Bool) (y : A) (ys : List A) (b : Bool) → p y ≡ b → (find p ys ≡ None) ⊎ ((x : A) × IsIn x ys × (p x ≡ true) × (find p ys ≡ Some x)) → (cond b (Some y) (find p ys) ≡ None) ⊎ ((x : A) × IsIn x (y ∷ ys) × (p x ≡ true) × (cond b (Some y) (find p ys) ≡ Some x))
find_step p y ys true e h = inr (y, inl refl, e, refl)
find_step p y ys false e (inl n) = inl n
find_step p y ys false e (inr (x, i, t, f)) = inr (x, inr i, t, f)

pub find_cases : {A : Type 0} (p : A → Bool) (xs : List A) → (find p xs ≡ None) ⊎ ((x : A) × IsIn x xs × (p x ≡ true) × (find p xs ≡ Some x))
find_cases p [] = inl refl
find_cases p (y ∷ ys) = find_step p y ys (p y) refl (find_cases p ys)

-- ---- ranges and sums

pub in_range : (m a n : ℕ) → a ≤ m → m < a + n → IsIn m (range_with_len a n)
in_range m a zero h k = absurd (omega arith)
in_range m a (suc n) h k = elim (le_cases a m h) [ inl e ↦ inl e | inr l ↦ inr (in_range m (a + 1) n l (omega arith)) ]
  where
    le_cases : (a m : ℕ) → a ≤ m → (m ≡ a) ⊎ (a + 1 ≤ m)
    le_cases a m h = grind arith

pub from_range : (m a n : ℕ) → IsIn m (range_with_len a n) → (a ≤ m) × (m < a + n)
from_range m a zero i = absurd i
from_range m a (suc n) (inl e) = (omega arith, omega arith)
from_range m a (suc n) (inr j) = let h = from_range m (a + 1) n j in (omega (arith, h.0), omega (arith, h.1))

pub sum_by_same : {A : Type 0} (f g : A → ℕ) (xs : List A) → ((x : A) → f x ≡ g x) → sum_by f xs ≡ sum_by g xs
sum_by_same f g [] h = refl
sum_by_same f g (x ∷ xs) h = let e = h x in let r = sum_by_same f g xs h in let a = sum_by-cons f x xs in let b = sum_by-cons g x xs in omega arith

pub sum_by_none : {A : Type 0} (f : A → ℕ) (xs : List A) → ((x : A) → IsIn x xs → f x ≡ 0) → sum_by f xs ≡ 0
sum_by_none f [] h = refl
sum_by_none f (x ∷ xs) h = let e = h x (inl refl) in let r = sum_by_none f xs (λ y i. h y (inr i)) in let a = sum_by-cons f x xs in omega arith

pub list_all_range : (p : ℕ → Bool) (a b : ℕ) → ((k : ℕ) → a ≤ k → k < b → p k ≡ true) → list_all p (range_with_len a (b - a)) ≡ true
list_all_range p a b h = list_all_from p (range_with_len a (b - a)) (λ k i. let r = from_range k a (b - a) i in h k r.0 (omega (arith, r.1, r.0)))

pub list_all_range_not : (p : ℕ → Bool) (a b k : ℕ) → a ≤ k → k < b → p k ≡ false → list_all p (range_with_len a (b - a)) ≡ false
list_all_range_not p a b k low high f = not_true (list_all p (range_with_len a (b - a))) (λ e. false≢true (sym f ∙ list_all_at p (range_with_len a (b - a)) k e (in_range k a (b - a) low (omega arith))))
  where
    not_true : (c : Bool) → (c ≡ true → ⊥) → c ≡ false
    not_true true g = absurd (g refl)
    not_true false g = refl
