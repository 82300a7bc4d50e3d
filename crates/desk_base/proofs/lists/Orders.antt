-- A list that a total order sorts is known by its members.
use Rattle.std.proofs.Common.{◌≡◌, List, [], ◌∷◌, inl, inr, refl, sym, ap, ◌∙◌, subst}
use Rattle.std.proofs.lemmas.Cmp.{tied_itself}
use Rattle.std.specs.List.{AllByRecursion}
use Rattle.std.specs.List.Sorted.{IsStrictlySortedBy}
use Rattle.std.specs.Cmp.{IsTotalOrder}
use Rattle.std.specs.declared.cmp.Ordering.{Ordering}
use Rattle.std.specs.declared.cmp.Ordering.TheVariants.{Less}
use Rattle.desk_base.specs.search.Order.{Enumerates}
use Rattle.desk_base.proofs.lists.Members.{IsIn, all_at, in_from_contains, contains_from_in}

module _ {K : Type 0} (c : K → K → Ordering) (o : IsTotalOrder c) where
  pub not_itself : (x : K) → c x x ≡ Less → ⊥
  not_itself x h = let e = tied_itself o x in cc

  pub not_both : (x y : K) → c x y ≡ Less → c y x ≡ Less → ⊥
  not_both x y h k = not_itself x (o.trans x y x h k)

  same_head : (x y : K) (xs ys : List K) → AllByRecursion (λ z. c x z ≡ Less) xs → AllByRecursion (λ z. c y z ≡ Less) ys → IsIn x (y ∷ ys) → IsIn y (x ∷ xs) → x ≡ y
  same_head x y xs ys a b (inl e) j = e
  same_head x y xs ys a b (inr i) (inl e) = sym e
  same_head x y xs ys a b (inr i) (inr j) = absurd (not_both x y (all_at (λ z. c x z ≡ Less) xs y a j) (all_at (λ z. c y z ≡ Less) ys x b i))

  in_rest : (x y z : K) (ys : List K) → x ≡ y → c x z ≡ Less → IsIn z (y ∷ ys) → IsIn z ys
  in_rest x y z ys e h (inl f) = absurd (not_itself x (subst (λ w. c x w ≡ Less) (f ∙ sym e) h))
  in_rest x y z ys e h (inr i) = i

  -- two strictly sorted lists with the same members are one
  pub same_sorted : (xs ys : List K) → IsStrictlySortedBy c xs → IsStrictlySortedBy c ys → ((z : K) → IsIn z xs → IsIn z ys) → ((z : K) → IsIn z ys → IsIn z xs) → xs ≡ ys
  unfolding IsStrictlySortedBy
  same_sorted [] [] s u f g = refl
  same_sorted [] (y ∷ ys) s u f g = absurd (g y (inl refl))
  same_sorted (x ∷ xs) [] s u f g = absurd (f x (inl refl))
  same_sorted (x ∷ xs) (y ∷ ys) s u f g =
      let e = same_head x y xs ys s.0 u.0 (f x (inl refl)) (g y (inl refl)) in
      let r = same_sorted xs ys s.1 u.1
      (λ z i. in_rest x y z ys e (all_at (λ w. c x w ≡ Less) xs z s.0 i) (f z (inr i)))
      (λ z i. in_rest y x z xs (sym e) (all_at (λ w. c y w ≡ Less) ys z u.0 i) (g z (inr i))) in
      ap (λ w. w ∷ xs) e ∙ ap (λ l. y ∷ l) r

  -- what a predicate lists is one list
  pub Enumerates-same : (P : K → Type 0) (xs ys : List K) → Enumerates c P xs → Enumerates c P ys → xs ≡ ys
  Enumerates-same P xs ys a b =
      same_sorted xs ys a.rising b.rising
      (λ z i. in_from_contains ys z (b.complete z (a.sound z (contains_from_in xs z i))))
      (λ z i. in_from_contains xs z (a.complete z (b.sound z (contains_from_in ys z i))))
