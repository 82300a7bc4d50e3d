-- The next pick of a leaf, and what it costs.
use Rattle.std.proofs.Common.{◌≡◌, ℕ, ◌+◌, ◌<◌, ◌≤◌, Bool, true, false, cond, List, [], ◌∷◌, ◌++◌, length, take, drop, get_or, Option, Some, None, inl, inr, refl, sym, ap, ◌∙◌, subst, arith, suc, add-one}
use Rattle.std.proofs.lemmas.Bool.{false≢true, false_from_ne_true}
use Rattle.std.proofs.lemmas.List.{take-append-drop, take_more, take_all}
use Rattle.std.proofs.Math.Seq.{drop-cons}
use Rattle.std.specs.Prelude.{Contains}
use Rattle.std.specs.List.Sorted.{IsStrictlySortedBy}
use Rattle.std.specs.Ordering.{is_lt}
use Rattle.std.specs.declared.cmp.Ordering.{Ordering}
use Rattle.std.specs.declared.cmp.Ordering.TheVariants.{Less, Equal, Greater}
use Rattle.desk_base.specs.search.Order.{pick_cmp}
use Rattle.desk_base.specs.search.OrderLaws.{pick_total}
use Rattle.desk_base.proofs.lists.Members.{IsIn, all_at, in-append, in_right, in_from_contains}
use Rattle.desk_base.proofs.lists.Orders.{not_itself, not_both}
use Rattle.desk_pruned.specs.Ways.{Ways, IsSound, IsLiveAt, Comes, IsNextPick, cost, costs}
use Rattle.desk_pruned.specs.Costs.{comes, price, owed}

-- ---- places of lists

pub split_here : {A : Type 0} (cs : List A) (i : ℕ) (c : A) → i < length cs → c ≡ get_or cs i c → cs ≡ take i cs ++ c ∷ drop (i + 1) cs
split_here cs i c h e =
    sym (take-append-drop i cs) ∙ ap (λ l. take i cs ++ l) (drop-cons cs i c h ∙ ap (λ y. y ∷ drop (suc i) cs) (sym e) ∙ ap (λ k. c ∷ drop k cs) (sym (add-one i)))

pub drop_here : {A : Type 0} (cs : List A) (i : ℕ) (c : A) → i < length cs → c ≡ get_or cs i c → drop i cs ≡ c ∷ drop (i + 1) cs
drop_here cs i c h e = drop-cons cs i c h ∙ ap (λ y. y ∷ drop (suc i) cs) (sym e) ∙ ap (λ k. c ∷ drop k cs) (sym (add-one i))

pub more_here : {A : Type 0} (cs : List A) (i : ℕ) (c : A) → i < length cs → c ≡ get_or cs i c → take (i + 1) cs ≡ take i cs ++ c ∷ []
more_here cs i c h e = take_more cs i c h ∙ ap (λ y. take i cs ++ y ∷ []) (sym e)

module _ {K : Type 0} (r : K → K → Ordering) where
  -- in a sorted list what stands behind an element comes after it, and what stands before it comes before it
  pub sorted_behind : (xs : List K) (y : K) (zs : List K) → IsStrictlySortedBy r (xs ++ y ∷ zs) → (z : K) → IsIn z zs → r y z ≡ Less
  unfolding IsStrictlySortedBy
  sorted_behind [] y zs s z i = all_at (λ v. r y v ≡ Less) zs z s.0 i
  sorted_behind (x ∷ xs) y zs s z i = sorted_behind xs y zs s.1 z i

  pub sorted_before : (xs : List K) (y : K) (zs : List K) → IsStrictlySortedBy r (xs ++ y ∷ zs) → (x : K) → IsIn x xs → r x y ≡ Less
  unfolding IsStrictlySortedBy
  sorted_before [] y zs s x i = absurd i
  sorted_before (v ∷ xs) y zs s x (inl e) = subst (λ u. r u y ≡ Less) (sym e) (all_at (λ u. r v u ≡ Less) (xs ++ y ∷ zs) y s.0 (in_right y xs (y ∷ zs) (inl refl)))
  sorted_before (v ∷ xs) y zs s x (inr i) = sorted_before xs y zs s.1 x i

-- ---- the least pick that is live

lt_is : (r : Ordering) → is_lt r ≡ true → r ≡ Less
lt_is Less e = refl
lt_is Equal e = absurd (false≢true e)
lt_is Greater e = absurd (false≢true e)

pub Comes_is : (tried : Option (Option ℕ)) (z : Option ℕ) → comes tried z ≡ true → Comes tried z
Comes_is None z e = tt
Comes_is (Some x) z e = lt_is (pick_cmp x z) e

pub comes_from : (tried : Option (Option ℕ)) (z : Option ℕ) → Comes tried z → comes tried z ≡ true
comes_from None z h = refl
comes_from (Some x) z h = ap is_lt h

comes_up : (tried : Option (Option ℕ)) (y z : Option ℕ) → Comes tried y → pick_cmp y z ≡ Less → Comes tried z
comes_up None y z h l = tt
comes_up (Some x) y z h l = pick_total.trans x y z h l

-- none of these picks comes after the one that was tried and is live
abbrev pub NoneAmong : Ways → ℕ → List (Option ℕ) → Option (Option ℕ) → List (Option ℕ) → Type 0
NoneAmong w s q tried zs = (z : Option ℕ) → IsIn z zs → Comes tried z → IsLiveAt w s (q ++ z ∷ []) → ⊥

module _ (w : Ways) (s : ℕ) (q : List (Option ℕ)) (tried : Option (Option ℕ)) (cs : List (Option ℕ)) (i : ℕ) where
  pub none_yet : NoneAmong w s q tried (take 0 cs)
  none_yet z m h l = absurd m

  pub none_more : (c : Option ℕ) → i < length cs → c ≡ get_or cs i c → NoneAmong w s q tried (take i cs) → (Comes tried c × IsLiveAt w s (q ++ c ∷ []) → ⊥) → NoneAmong w s q tried (take (i + 1) cs)
  none_more c h e none dead z m t l =
      elim (in-append z (take i cs) (c ∷ []) (subst (IsIn z) (more_here cs i c h e) m)) [
        | inl j ↦ none z j t l
        | inr j ↦ elim j [ inl k ↦ dead (subst (Comes tried) k t, subst (λ u. IsLiveAt w s (q ++ u ∷ [])) k l) | inr j ↦ absurd j ]
      ]

  pub none_at_all : IsSound w → cs ≡ w.choices (length q) → length cs ≤ i → NoneAmong w s q tried (take i cs) → IsNextPick w s q tried None
  none_at_all sound same h none z t l = none z (subst (IsIn z) (sym (take_all i cs h)) (in_from_contains cs z (subst (λ l. Contains l z) (sym same) (sound.offered s q z l)))) t l

  pub found_here : (c : Option ℕ) → IsSound w → cs ≡ w.choices (length q) → i < length cs → c ≡ get_or cs i c → NoneAmong w s q tried (take i cs) → Comes tried c × IsLiveAt w s (q ++ c ∷ []) → IsNextPick w s q tried (Some c)
  found_here c sound same h e none live = (
    live.1,
    live.0,
    λ z t l.
        let all = in_from_contains cs z (subst (λ l. Contains l z) (sym same) (sound.offered s q z l)) in
        let sorted = subst (IsStrictlySortedBy pick_cmp) (sym same ∙ split_here cs i c h e) (sound.rise (length q)) in
        elim (in-append z (take i cs) (c ∷ drop (i + 1) cs) (subst (IsIn z) (split_here cs i c h e) all)) [
          | inl j ↦ absurd (none z j t l)
          | inr j ↦ elim j [ inl k ↦ inl k | inr j ↦ inr (sorted_behind pick_cmp (take i cs) c (drop (i + 1) cs) sorted z j) ]
        ],
  )

-- ---- costs

owed_nothing : (t : Option (Option ℕ)) (zs : List (Option ℕ)) → ((z : Option ℕ) → IsIn z zs → comes t z ≡ false) → owed t zs ≡ 0
owed_nothing t [] h = refl
owed_nothing t (z ∷ zs) h =
    let a = ap (λ b. cond b (cost z) 0) (h z (inl refl)) in
    let b = owed_nothing t zs (λ y i. h y (inr i)) in omega arith

cond_less : (b c : Bool) (n : ℕ) → (b ≡ true → c ≡ true) → cond b n 0 ≤ cond c n 0
cond_less true c n h = subst (λ d. n ≤ cond d n 0) (sym (h refl)) (omega arith)
cond_less false c n h = omega arith

owed_less : (u t : Option (Option ℕ)) (zs : List (Option ℕ)) → ((z : Option ℕ) → IsIn z zs → comes u z ≡ true → comes t z ≡ true) → owed u zs ≤ owed t zs
owed_less u t [] h = omega arith
owed_less u t (z ∷ zs) h =
    let a = cond_less (comes u z) (comes t z) (cost z) (h z (inl refl)) in
    let b = owed_less u t zs (λ y i. h y (inr i)) in omega arith

pub owed-append : (t : Option (Option ℕ)) (xs ys : List (Option ℕ)) → owed t (xs ++ ys) ≡ owed t xs + owed t ys
owed-append t [] ys = omega arith
owed-append t (x ∷ xs) ys = let h = owed-append t xs ys in omega arith

-- what comes after any pick is among all
pub owed_all : (t : Option (Option ℕ)) (zs : List (Option ℕ)) → owed t zs ≤ costs zs
owed_all t [] = omega arith
owed_all t (z ∷ zs) =
    let a = cond_less (comes t z) true (cost z) (λ e. refl) in
    let b = owed_all t zs in omega arith

not_before : (x y : Option ℕ) → (pick_cmp x y ≡ Less → ⊥) → is_lt (pick_cmp x y) ≡ false
not_before x y h = false_from_ne_true (is_lt (pick_cmp x y)) (λ e. h (lt_is (pick_cmp x y) e))

-- after a pick there is no more to try than behind its place
pub owed_behind : (t : Option (Option ℕ)) (cs : List (Option ℕ)) (i : ℕ) (c : Option ℕ) → i < length cs → c ≡ get_or cs i c → IsStrictlySortedBy pick_cmp cs → Comes t c → owed (Some c) cs ≤ owed t (drop (i + 1) cs)
owed_behind t cs i c h e rise comes_c =
    let whole = split_here cs i c h e in
    let sorted = subst (IsStrictlySortedBy pick_cmp) whole rise in
    let before = owed_nothing (Some c) (take i cs) (λ z m. not_before c z (λ l. not_both pick_cmp pick_total z c (sorted_before pick_cmp (take i cs) c (drop (i + 1) cs) sorted z m) l)) in
    let here = owed_nothing (Some c) (c ∷ []) (λ z m. elim m [ inl k ↦ not_before c z (λ l. not_itself pick_cmp pick_total c (subst (λ u. pick_cmp c u ≡ Less) k l)) | inr m ↦ absurd m ]) in
    let behind = owed_less (Some c) t (drop (i + 1) cs) (λ z m l. comes_from t z (comes_up t c z comes_c (sorted_behind pick_cmp (take i cs) c (drop (i + 1) cs) sorted z m))) in
    let joined : owed (Some c) cs ≡ owed (Some c) (take i cs) + owed (Some c) (c ∷ drop (i + 1) cs) = ap (owed (Some c)) whole ∙ owed-append (Some c) (take i cs) (c ∷ drop (i + 1) cs) in
    omega arith

pub owed_here : (t : Option (Option ℕ)) (cs : List (Option ℕ)) (i : ℕ) (c : Option ℕ) → i < length cs → c ≡ get_or cs i c → owed t (drop i cs) ≡ price t c + owed t (drop (i + 1) cs)
owed_here t cs i c h e = ap (owed t) (drop_here cs i c h e)

pub costs_here : (cs : List (Option ℕ)) (i : ℕ) (c : Option ℕ) → i < length cs → c ≡ get_or cs i c → costs (drop i cs) ≡ cost c + costs (drop (i + 1) cs)
costs_here cs i c h e = ap costs (drop_here cs i c h e)
