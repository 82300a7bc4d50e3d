-- Filtered lists: those of which all pass or none, and those that are filtered twice.
use Rattle.std.proofs.Common.{◌≡◌, Bool, true, false, cond, List, [], ◌∷◌, filter, inl, inr, refl, sym, ap, ◌∙◌}
use Rattle.std.proofs.lemmas.Bool.{false≢true, false_from_ne_true}
use Rattle.desk_base.proofs.lists.Members.{IsIn}

module _ {A : Type 0} (p : A → Bool) where
  pub all_pass : (xs : List A) → ((x : A) → IsIn x xs → p x ≡ true) → filter p xs ≡ xs
  all_pass [] h = refl
  all_pass (x ∷ xs) h = ap (λ b. cond b (x ∷ filter p xs) (filter p xs)) (h x (inl refl)) ∙ ap (λ l. x ∷ l) (all_pass xs (λ y i. h y (inr i)))

  pub none_pass : (xs : List A) → ((x : A) → IsIn x xs → p x ≡ false) → filter p xs ≡ []
  none_pass [] h = refl
  none_pass (x ∷ xs) h = ap (λ b. cond b (x ∷ filter p xs) (filter p xs)) (h x (inl refl)) ∙ none_pass xs (λ y i. h y (inr i))

  -- a filter before it that lets through what passes changes nothing
  pub pass_both : (q : A → Bool) → ((x : A) → p x ≡ true → q x ≡ true) → (xs : List A) → filter p (filter q xs) ≡ filter p xs
  pass_both q h [] = refl
  pass_both q h (x ∷ xs) = step (q x) refl (pass_both q h xs)
    where
      step : (b : Bool) → q x ≡ b → filter p (filter q xs) ≡ filter p xs → filter p (cond b (x ∷ filter q xs) (filter q xs)) ≡ cond (p x) (x ∷ filter p xs) (filter p xs)
      step true e r = ap (λ l. cond (p x) (x ∷ l) l) r
      step false e r = r ∙ sym (ap (λ b. cond b (x ∷ filter p xs) (filter p xs)) (false_from_ne_true (p x) (λ f. false≢true (sym e ∙ h x f))))
