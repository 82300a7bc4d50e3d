-- Sums over lists: zeros, equal terms, filtered rows, and the two orders of a double sum.
use Rattle.std.proofs.Common.{◌≡◌, ℕ, ◌+◌, Bool, true, false, cond, ◌==◌, ◌||◌, List, [], ◌∷◌, map, inl, inr, refl, sym, ap, ◌∙◌, arith}
use Rattle.std.proofs.lemmas.Bool.Decides.{nat_tests}
use Rattle.std.proofs.lemmas.List.Sums.{sum_by-cons}
use Rattle.std.specs.Prelude.{filter, sum_by}
use Rattle.std.specs.List.{list_any}
use Rattle.desk_base.proofs.lists.Members.{IsIn}

module _ {A : Type 0} where
  pub sum_zeros : (f : A → ℕ) (xs : List A) → ((x : A) → IsIn x xs → f x ≡ 0) → sum_by f xs ≡ 0
  sum_zeros f [] h = refl
  sum_zeros f (x ∷ xs) h = let a = sum_by-cons f x xs in let e = h x (inl refl) in let r = sum_zeros f xs (λ y i. h y (inr i)) in omega arith

  pub sum_same : (f g : A → ℕ) (xs : List A) → ((x : A) → IsIn x xs → f x ≡ g x) → sum_by f xs ≡ sum_by g xs
  sum_same f g [] h = refl
  sum_same f g (x ∷ xs) h = let a = sum_by-cons f x xs in let b = sum_by-cons g x xs in let e = h x (inl refl) in let r = sum_same f g xs (λ y i. h y (inr i)) in omega arith

  pub sum_plus : (f g h : A → ℕ) (xs : List A) → ((x : A) → IsIn x xs → h x ≡ f x + g x) → sum_by h xs ≡ sum_by f xs + sum_by g xs
  sum_plus f g h [] e = refl
  sum_plus f g h (x ∷ xs) e =
      let a = sum_by-cons f x xs in let b = sum_by-cons g x xs in let c = sum_by-cons h x xs in let d = e x (inl refl) in let r = sum_plus f g h xs (λ y i. e y (inr i)) in omega arith

  -- the sum over the rows that pass, and the sum over all in which the others count 0
  pub sum_filter : (f : A → ℕ) (p : A → Bool) (xs : List A) → sum_by f (filter p xs) ≡ sum_by (λ x. cond (p x) (f x) 0) xs
  sum_filter f p [] = refl
  sum_filter f p (x ∷ xs) = keep (p x) refl (sum_filter f p xs)
    where
      keep : (b : Bool) → p x ≡ b → sum_by f (filter p xs) ≡ sum_by (λ y. cond (p y) (f y) 0) xs → sum_by f (cond b (x ∷ filter p xs) (filter p xs)) ≡ sum_by (λ y. cond (p y) (f y) 0) (x ∷ xs)
      keep true e r =
          let a = sum_by-cons f x (filter p xs) in let c = sum_by-cons (λ y. cond (p y) (f y) 0) x xs in let d = ap (λ b. cond b (f x) 0) e in omega arith
      keep false e r =
          let c = sum_by-cons (λ y. cond (p y) (f y) 0) x xs in let d = ap (λ b. cond b (f x) 0) e in omega arith

pub sum_map : {A B : Type 0} (f : B → ℕ) (g : A → B) (xs : List A) → sum_by f (map g xs) ≡ sum_by (λ x. f (g x)) xs
sum_map f g [] = refl
sum_map f g (x ∷ xs) = let a = sum_by-cons f (g x) (map g xs) in let b = sum_by-cons (λ x. f (g x)) x xs in let r = sum_map f g xs in omega arith

-- a double sum, the other way round
pub sum_swap : {A B : Type 0} (f : A → B → ℕ) (xs : List A) (ys : List B) → sum_by (λ x. sum_by (f x) ys) xs ≡ sum_by (λ y. sum_by (λ x. f x y) xs) ys
sum_swap f [] ys = sym (sum_zeros (λ y. sum_by (λ x. f x y) []) ys (λ y i. refl))
sum_swap f (x ∷ xs) ys =
    let a = sum_by-cons (λ x. sum_by (f x) ys) x xs in
    let r = sum_swap f xs ys in
    let p = sum_plus (f x) (λ y. sum_by (λ x. f x y) xs) (λ y. sum_by (λ x. f x y) (x ∷ xs)) ys (λ y i. sum_by-cons (λ x. f x y) x xs) in omega arith

-- no number stands twice
abbrev pub AreApart : List ℕ → Type 0
AreApart [] = Unit {0}
AreApart (x ∷ xs) = ((y : ℕ) → IsIn y xs → (y == x) ≡ false) × AreApart xs

absent : (k e : ℕ) (xs : List ℕ) → ((y : ℕ) → IsIn y xs → (y == k) ≡ false) → sum_by (λ x. cond (x == k) e 0) xs ≡ 0
absent k e xs h = sum_zeros (λ x. cond (x == k) e 0) xs (λ y i. ap (λ b. cond b e 0) (h y i))

none_there : (k : ℕ) (xs : List ℕ) → ((y : ℕ) → IsIn y xs → (y == k) ≡ false) → list_any (λ x. x == k) xs ≡ false
none_there k [] h = refl
none_there k (x ∷ xs) h = ap (λ b. b || list_any (λ x. x == k) xs) (h x (inl refl)) ∙ none_there k xs (λ y i. h y (inr i))

-- where no number stands twice, k is counted once where it is there
pub sum_once : (k e : ℕ) (xs : List ℕ) → AreApart xs → sum_by (λ x. cond (x == k) e 0) xs ≡ cond (list_any (λ x. x == k) xs) e 0
sum_once k e [] h = refl
sum_once k e (x ∷ xs) h = keep (x == k) refl (sum_once k e xs h.1)
  where
    keep : (b : Bool) → (x == k) ≡ b → sum_by (λ x. cond (x == k) e 0) xs ≡ cond (list_any (λ x. x == k) xs) e 0 → sum_by (λ x. cond (x == k) e 0) (x ∷ xs) ≡ cond (b || list_any (λ x. x == k) xs) e 0
    keep true q r =
        let a = sum_by-cons (λ x. cond (x == k) e 0) x xs in
        let c = ap (λ b. cond b e 0) q in
        let z = absent k e xs (λ y i. other y x k (h.0 y i) q) in omega arith
      where
        other : (y x k : ℕ) → (y == x) ≡ false → (x == k) ≡ true → (y == k) ≡ false
        other y x k a b = grind (arith, nat_tests)
    keep false q r =
        let a = sum_by-cons (λ x. cond (x == k) e 0) x xs in
        let c = ap (λ b. cond b e 0) q in omega arith
