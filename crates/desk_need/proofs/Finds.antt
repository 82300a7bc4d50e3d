-- Which of a list's elements pass a test.
use Rattle.std.proofs.Common.{◌≡◌, ◌==◌, ℕ, suc, ◌+◌, ◌<◌, arith, Bool, true, false, cond, not, ◌&&◌, ◌||◌, List, [], ◌∷◌, ◌++◌, map, length, take, get_or, refl, sym, ap, ◌∙◌}
use Rattle.std.proofs.lemmas.Bool.Decides.{nat_tests}
use Rattle.std.proofs.lemmas.List.{take_more, map-append}
use Rattle.std.proofs.lemmas.List.Elements.{filter-append}
use Rattle.std.specs.Prelude.{filter}
use Rattle.std.specs.List.{list_any}

-- some of those that pass p pass q
pub any_filter : {A : Type 0} (p q : A → Bool) (xs : List A) → list_any q (filter p xs) ≡ list_any (λ x. p x && q x) xs
any_filter p q [] = refl
any_filter p q (x ∷ xs) = step (p x) (any_filter p q xs)
  where
    step : (b : Bool) → list_any q (filter p xs) ≡ list_any (λ y. p y && q y) xs → list_any q (cond b (x ∷ filter p xs) (filter p xs)) ≡ ((b && q x) || list_any (λ y. p y && q y) xs)
    step true e = ap (λ c. q x || c) e
    step false e = e

more_than_none : (n : ℕ) → not (suc n == 0) ≡ true
more_than_none n = grind (arith, nat_tests)

-- some pass exactly where what passes is not empty
pub any_some : {A : Type 0} (p : A → Bool) (xs : List A) → not (length (filter p xs) == 0) ≡ list_any p xs
any_some p [] = refl
any_some p (x ∷ xs) = step (p x) (any_some p xs)
  where
    step : (b : Bool) → not (length (filter p xs) == 0) ≡ list_any p xs → not (length (cond b (x ∷ filter p xs) (filter p xs)) == 0) ≡ (b || list_any p xs)
    step true e = more_than_none (length (filter p xs))
    step false e = e

-- what passes of the first i + 1, after what passes of the first i
pub picked-more : {A B : Type 0} (p : A → Bool) (f : A → B) (xs : List A) (i : ℕ) (x : A) (us vs : List B) → i < length xs → x ≡ get_or xs i x → us ≡ map f (filter p (take i xs)) → vs ≡ us ++ cond (p x) (f x ∷ []) [] → vs ≡ map f (filter p (take (i + 1) xs))
picked-more {A} {B} p f xs i x us vs h e a b =
    b ∙ ap (λ l. l ++ cond (p x) (f x ∷ []) []) a ∙ ap (λ l. map f (filter p (take i xs)) ++ l) (one (p x)) ∙ sym (map-append f (filter p (take i xs)) (filter p (x ∷ [])))
    ∙ ap (map f) (sym (filter-append p (take i xs) (x ∷ []))) ∙ sym (ap (λ l. map f (filter p l)) (take_more xs i x h ∙ ap (λ y. take i xs ++ y ∷ []) (sym e)))
  where
    one : (b : Bool) → cond b (f x ∷ []) [] ≡ map f (cond b (x ∷ []) [])
    one true = refl
    one false = refl
