-- Weights that are found.
use Rattle.std.proofs.Common.{◌≡◌, ℕ, Bool, true, false, cond, ◌==◌, List, [], ◌∷◌, Some, refl, sym, ap, ◌∙◌, subst, arith}
use Rattle.std.proofs.lemmas.Bool.Decides.{nat_tests}
use Rattle.std.specs.Prelude.{find}
use Rattle.std.specs.List.{AllByRecursion}
use Rattle.desk_base.specs.declared.rows.tables.Tables.{Tables}
use Rattle.desk_base.specs.rows.Ranges.{owns}
use Rattle.desk_load.specs.declared.weights.Weight.{Weight}
use Rattle.desk_load.specs.Index.{IsWeightOf, AreWeightsOf}

found_all : {A : Type 0} (P : A → Type 0) (p : A → Bool) (xs : List A) (x : A) → AllByRecursion P xs → find p xs ≡ Some x → P x
found_all P p [] x a e = cc
found_all {A} P p (y ∷ ys) x a e = step (p y) e (found_all P p ys x a.1)
  where
    step : (b : Bool) → cond b (Some y) (find p ys) ≡ Some x → (find p ys ≡ Some x → P x) → P x
    step true f h = let g : y ≡ x = cc in subst P g a.0
    step false f h = h f

found_owner : {A : Type 0} (f : A → ℕ) (r : ℕ) (xs : List A) (x : A) → find (owns f r) xs ≡ Some x → f x ≡ r
found_owner f r [] x e = cc
found_owner {A} f r (y ∷ ys) x e = step (f y == r) refl e (found_owner f r ys x)
  where
    step : (b : Bool) → (f y == r) ≡ b → cond b (Some y) (find (owns f r) ys) ≡ Some x → (find (owns f r) ys ≡ Some x → f x ≡ r) → f x ≡ r
    step true g e h = let i : y ≡ x = cc in let j : f y ≡ r = grind (arith, nat_tests) in ap f (sym i) ∙ j
    step false g e h = h e

pub weight_found : (t : Tables) (ws : List Weight) (r : ℕ) (w : Weight) → AreWeightsOf t ws → find (owns (λ (w : Weight). w.resource) r) ws ≡ Some w → IsWeightOf t r w.weight
weight_found t ws r w h e = subst (λ n. IsWeightOf t n w.weight) (found_owner (λ (w : Weight). w.resource) r ws w e) (found_all (λ (w : Weight). IsWeightOf t w.resource w.weight) _ ws w h.each e)
