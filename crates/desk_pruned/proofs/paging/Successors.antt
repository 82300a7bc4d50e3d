-- The successors of a strictly rising list, over any order.
use Rattle.std.proofs.Common.{◌≡◌, Bool, true, false, cond, List, [], ◌∷◌, filter, ◌⊎◌, inl, inr, refl, sym, ap, ◌∙◌, subst}
use Rattle.std.proofs.lemmas.Bool.{false_from_ne_true}
use Rattle.std.specs.List.Sorted.{IsStrictlySortedBy}
use Rattle.std.specs.Cmp.{IsTotalOrder}
use Rattle.std.specs.Ordering.{is_lt}
use Rattle.std.specs.declared.cmp.Ordering.{Ordering}
use Rattle.std.specs.declared.cmp.Ordering.TheVariants.{Less, Equal, Greater}
use Rattle.desk_base.proofs.lists.Members.{IsIn, all_at}
use Rattle.desk_base.proofs.lists.Filtered.{all_pass}
use Rattle.desk_base.proofs.lists.Orders.{not_itself, not_both}

pub not_less : (r : Ordering) → (r ≡ Less → ⊥) → is_lt r ≡ false
not_less Less h = absurd (h refl)
not_less Equal h = refl
not_less Greater h = refl

keep : {A : Type 0} (q : A → Bool) (x : A) (xs : List A) → q x ≡ true → filter q (x ∷ xs) ≡ x ∷ filter q xs
keep q x xs e = ap (λ b. cond b (x ∷ filter q xs) (filter q xs)) e

skip : {A : Type 0} (q : A → Bool) (x : A) (xs : List A) → q x ≡ false → filter q (x ∷ xs) ≡ filter q xs
skip q x xs e = ap (λ b. cond b (x ∷ filter q xs) (filter q xs)) e

module _ {K : Type 0} (c : K → K → Ordering) (o : IsTotalOrder c) where
  -- of what passes a test, b is the least and what comes after b passes too: then b and what comes after it are all
  pub next_first : (q : K → Bool) (b : K) (xs : List K) → IsStrictlySortedBy c xs → IsIn b xs → q b ≡ true → ((x : K) → IsIn x xs → q x ≡ true → (x ≡ b) ⊎ (c b x ≡ Less))
      → ((x : K) → c b x ≡ Less → q x ≡ true) → filter q xs ≡ b ∷ filter (λ x. is_lt (c b x)) xs
  unfolding IsStrictlySortedBy
  next_first q b [] s i t h up = absurd i
  next_first q b (x ∷ xs) s (inl e) t h up =
      let above : (y : K) → IsIn y xs → c b y ≡ Less = λ y i. subst (λ z. c z y ≡ Less) (sym e) (all_at (λ z. c x z ≡ Less) xs y s.0 i) in
      keep q x xs (ap q (sym e) ∙ t) ∙ ap (λ l. x ∷ l) (all_pass q xs (λ y i. up y (above y i))) ∙ ap (λ y. y ∷ xs) (sym e)
      ∙ ap (λ l. b ∷ l) (sym (skip (λ y. is_lt (c b y)) x xs (not_less (c b x) (λ l. not_itself c o b (subst (λ y. c b y ≡ Less) (sym e) l))) ∙ all_pass (λ y. is_lt (c b y)) xs (λ y i. ap is_lt (above y i))))
  next_first q b (x ∷ xs) s (inr i) t h up =
      let below : c x b ≡ Less = all_at (λ z. c x z ≡ Less) xs b s.0 i in
      let out : q x ≡ false = false_from_ne_true (q x) (λ f. elim (h x (inl refl) f) [ inl e ↦ not_itself c o b (subst (λ y. c y b ≡ Less) e below) | inr l ↦ not_both c o b x l below ]) in
      skip q x xs out ∙ next_first q b xs s.1 i t (λ y j f. h y (inr j) f) up
      ∙ ap (λ l. b ∷ l) (sym (skip (λ y. is_lt (c b y)) x xs (not_less (c b x) (λ l. not_both c o b x l below))))
