-- Rows of the first picks in a list: one that is written over, and what the rows still owe.
use Rattle.std.proofs.Common.{◌≡◌, ℕ, ◌+◌, ◌<◌, ◌≤◌, Bool, true, false, cond, List, [], ◌∷◌, ◌++◌, map, length, take, drop, get_or, Option, Some, None, ◌⊎◌, inl, inr, refl, sym, ap, ◌∙◌, subst, arith, add-one}
use Rattle.std.proofs.Math.ListN.{set}
use Rattle.std.proofs.lemmas.List.{set_split, map-append, take-set-le, get_or-set_same, length-set, get_or_at, length-take, length-map}
use Rattle.std.proofs.lemmas.Bool.{false≢true}
use Rattle.std.specs.Prelude.{Contains}
use Rattle.std.specs.List.Sorted.{IsStrictlySortedBy}
use Rattle.std.specs.Ordering.{is_eq}
use Rattle.std.specs.declared.cmp.Ordering.{Ordering}
use Rattle.std.specs.declared.cmp.Ordering.TheVariants.{Less, Equal, Greater}
use Rattle.desk_base.specs.search.Order.{pick_cmp}
use Rattle.desk_base.proofs.lists.Members.{IsIn, all_at, in-append, in_left, in_right, in_mapped, contains_from_in, in_from_contains}
use Rattle.desk_pruned.specs.declared.roots.Root.{Root}
use Rattle.desk_pruned.specs.Ways.{Ways, IsSound, cost, costs}
use Rattle.desk_pruned.specs.Cuts.{Cut}
use Rattle.desk_pruned.specs.Starts.{IsKnown, AreRoots, is_unasked, unasked_root, is_same, forgotten, left, is_passed, asking, unasked}
use Rattle.desk_pruned.proofs.cutting.NextPicks.{split_here, more_here}
use Rattle.desk_pruned.proofs.cutting.Picks.{pick_same, pick_equal}

pub same_is : (x y : Option ℕ) → is_same x y ≡ true → x ≡ y
same_is x y h = pick_equal x y (by (pick_cmp x y) h)
  where
    by : (r : Ordering) → is_eq r ≡ true → r ≡ Equal
    by Less e = absurd (false≢true e)
    by Equal e = refl
    by Greater e = absurd (false≢true e)

-- ---- one more at the end

pub contains-push : {A : Type 0} (xs : List A) (y r : A) → Contains (xs ++ y ∷ []) r → Contains xs r ⊎ (r ≡ y)
contains-push xs y r h =
    elim (in-append r xs (y ∷ []) (in_from_contains (xs ++ y ∷ []) r h)) [
      | inl i ↦ inl (contains_from_in xs r i)
      | inr i ↦ elim i [ inl e ↦ inr e | inr j ↦ absurd j ]
    ]

pub contains_left : {A : Type 0} (xs ys : List A) (r : A) → Contains xs r → Contains (xs ++ ys) r
contains_left xs ys r h = contains_from_in (xs ++ ys) r (in_left r xs ys (in_from_contains xs r h))

pub contains_last : {A : Type 0} (xs : List A) (r : A) → Contains (xs ++ r ∷ []) r
contains_last xs r = contains_from_in (xs ++ r ∷ []) r (in_right r xs (r ∷ []) (inl refl))

-- ---- one that is written over

unasked-append : (xs ys : List Root) → unasked (xs ++ ys) ≡ unasked xs + unasked ys
unasked-append [] ys = omega arith
unasked-append (x ∷ xs) ys = let h = unasked-append xs ys in omega arith

module _ (rs : List Root) (i : ℕ) (old : Root) (inside : i < length rs) (here : old ≡ get_or rs i old) where
  abbrev pick_of : Root → Option ℕ
  pick_of r = r.pick

  whole : rs ≡ take i rs ++ old ∷ drop (i + 1) rs
  whole = split_here rs i old inside here

  written : (new : Root) → set rs i new ≡ take i rs ++ new ∷ drop (i + 1) rs
  written new = set_split rs i new inside ∙ ap (λ k. take i rs ++ new ∷ drop k rs) (sym (add-one i))

  pub row_here : Contains rs old
  row_here = contains_from_in rs old (subst (IsIn old) (sym whole) (in_right old (take i rs) (old ∷ drop (i + 1) rs) (inl refl)))

  pub pick_here : old.pick ≡ get_or (map pick_of rs) i old.pick
  pick_here =
      let size : length (map pick_of (take i rs)) ≡ i = length-map (take i rs) pick_of ∙ omega (arith, length-take i rs) in
      sym (ap (λ l. get_or (map pick_of l) i old.pick) whole ∙ ap (λ l. get_or l i old.pick) (map-append pick_of (take i rs) (old ∷ drop (i + 1) rs)) ∙ get_or_at (map pick_of (take i rs)) old.pick (map pick_of (drop (i + 1) rs)) old.pick i size)

  pub picks_written : (new : Root) → new.pick ≡ old.pick → map pick_of (set rs i new) ≡ map pick_of rs
  picks_written new e =
      ap (map pick_of) (written new) ∙ map-append pick_of (take i rs) (new ∷ drop (i + 1) rs) ∙ ap (λ x. map pick_of (take i rs) ++ x ∷ map pick_of (drop (i + 1) rs)) e
      ∙ sym (map-append pick_of (take i rs) (old ∷ drop (i + 1) rs)) ∙ sym (ap (map pick_of) whole)

  pub contains_written : (new r : Root) → Contains (set rs i new) r → Contains rs r ⊎ (r ≡ new)
  contains_written new r h =
      elim (in-append r (take i rs) (new ∷ drop (i + 1) rs) (subst (IsIn r) (written new) (in_from_contains (set rs i new) r h))) [
        | inl j ↦ inl (contains_from_in rs r (subst (IsIn r) (sym whole) (in_left r (take i rs) (old ∷ drop (i + 1) rs) j)))
        | inr j ↦ elim j [
          | inl e ↦ inr e
          | inr j ↦ inl (contains_from_in rs r (subst (IsIn r) (sym whole) (in_right r (take i rs) (old ∷ drop (i + 1) rs) (inr j))))
        ]
      ]

  pub unasked_written : (new : Root) → unasked (set rs i new) + asking old ≡ unasked rs + asking new
  unasked_written new =
      let a = ap unasked (written new) ∙ unasked-append (take i rs) (new ∷ drop (i + 1) rs) in
      let b = ap unasked whole ∙ unasked-append (take i rs) (old ∷ drop (i + 1) rs) in omega (arith, a, b)

  pub taken_written : (new : Root) → take (i + 1) (set rs i new) ≡ take i rs ++ new ∷ []
  taken_written new =
      let long = length-set rs i new in
      more_here (set rs i new) i new (omega (arith, long)) (sym (get_or-set_same rs i new new inside)) ∙ ap (λ l. l ++ new ∷ []) (take-set-le i rs i new (omega arith))

  pub roots_written : (w : Ways) (k : Cut) (new : Root) → AreRoots w k rs → new.pick ≡ old.pick → (IsKnown w k old.pick old.next → IsKnown w k new.pick new.next) → AreRoots w k (set rs i new)
  roots_written w k new roots e known = record {
    picks = picks_written new e ∙ roots.picks;
    known = λ r c. elim (contains_written new r c) [
      | inl d ↦ roots.known r d
      | inr f ↦ subst (λ (q : Root). IsKnown w k q.pick q.next) (sym f) (known (roots.known old row_here))
    ];
  }

-- ---- all of them

all_unasked : (cs : List (Option ℕ)) → map (λ (r : Root). r.pick) (map unasked_root cs) ≡ cs
all_unasked [] = refl
all_unasked (c ∷ cs) = ap (λ l. c ∷ l) (all_unasked cs)

unasked_least : (r : Root) → asking r ≤ cost r.pick
unasked_least r = by (is_unasked r.next)
  where
    by : (b : Bool) → cond b (cost r.pick) 0 ≤ cost r.pick
    by true = omega arith
    by false = omega arith

unasked_costs : (rs : List Root) → unasked rs ≤ costs (map (λ (r : Root). r.pick) rs)
unasked_costs [] = omega arith
unasked_costs (r ∷ rs) = let h = unasked_costs rs in let f = unasked_least r in omega arith

module _ (w : Ways) (sound : IsSound w) where
  -- the rows owe no more steps than there are resources
  pub unasked_few : (rs : List Root) → map (λ (r : Root). r.pick) rs ≡ w.choices 0 → unasked rs ≤ w.resources
  unasked_few rs e = let a = unasked_costs rs in let b = ap costs e in omega (arith, a, b, sound.few 0)

  pub none_asked : (k : Cut) → AreRoots w k (map unasked_root (w.choices 0))
  none_asked k = record { picks = all_unasked (w.choices 0); known = λ r c. by (w.choices 0) r (in_from_contains (map unasked_root (w.choices 0)) r c) }
    where
      by : (cs : List (Option ℕ)) (r : Root) → IsIn r (map unasked_root cs) → IsKnown w k r.pick r.next
      by [] r i = absurd i
      by (c ∷ cs) r (inl e) = subst (λ (q : Root). IsKnown w k q.pick q.next) (sym e) tt
      by (c ∷ cs) r (inr i) = by cs r i

-- ---- rows of which nothing is known any more

pub picks_kept : (f : Root → Root) → ((r : Root) → (f r).pick ≡ r.pick) → (rs : List Root) → map (λ (r : Root). r.pick) (map f rs) ≡ map (λ (r : Root). r.pick) rs
picks_kept f h [] = refl
picks_kept f h (r ∷ rs) = ap (λ x. x ∷ map (λ (r : Root). r.pick) (map f rs)) (h r) ∙ ap (λ l. r.pick ∷ l) (picks_kept f h rs)

pub forgotten_pick : (x : Option ℕ) (r : Root) → (forgotten x r).pick ≡ r.pick
forgotten_pick x r = by (is_same r.pick x)
  where
    by : (b : Bool) → (cond b (unasked_root r.pick) r).pick ≡ r.pick
    by true = refl
    by false = refl

pub left_pick : (s : ℕ) (r : Root) → (left s r).pick ≡ r.pick
left_pick s r = by (is_passed r.next s)
  where
    by : (b : Bool) → (cond b (unasked_root r.pick) r).pick ≡ r.pick
    by true = refl
    by false = refl

cost_small : (x : Option ℕ) → cost x ≤ 1
cost_small None = omega arith
cost_small (Some r) = omega arith

later_is_other : (a x y : Option ℕ) → pick_cmp a x ≡ Equal → pick_cmp a y ≡ Less → is_same y x ≡ false
later_is_other a x y e l = by (is_same y x) refl
  where
    by : (b : Bool) → is_same y x ≡ b → b ≡ false
    by false f = refl
    by true f = let g = pick_equal a x e ∙ sym (same_is y x f) in let z = sym (subst (λ u. pick_cmp a u ≡ Less) (sym g) l) ∙ pick_same a in cc

nothing_forgotten : (x : Option ℕ) (rs : List Root) → ((r : Root) → IsIn r rs → is_same r.pick x ≡ false) → map (forgotten x) rs ≡ rs
nothing_forgotten x [] h = refl
nothing_forgotten x (r ∷ rs) h = ap (λ b. cond b (unasked_root r.pick) r ∷ map (forgotten x) rs) (h r (inl refl)) ∙ ap (λ l. r ∷ l) (nothing_forgotten x rs (λ q i. h q (inr i)))

-- one row at most is forgotten
pub unasked_forgotten : (x : Option ℕ) (rs : List Root) → IsStrictlySortedBy pick_cmp (map (λ (r : Root). r.pick) rs) → unasked (map (forgotten x) rs) ≤ unasked rs + 1
unfolding IsStrictlySortedBy
unasked_forgotten x [] sorted = omega arith
unasked_forgotten x (r ∷ rs) sorted = by (unasked_forgotten x rs sorted.1) (is_same r.pick x) refl
  where
    other : (q : Root) → is_same r.pick x ≡ true → IsIn q rs → is_same q.pick x ≡ false
    other q e i = behind (pick_cmp r.pick x) e refl (all_at (λ y. pick_cmp r.pick y ≡ Less) (map (λ (r : Root). r.pick) rs) q.pick sorted.0 (in_mapped (λ (r : Root). r.pick) q rs i))
      where
        behind : (o : Ordering) → is_eq o ≡ true → pick_cmp r.pick x ≡ o → pick_cmp r.pick q.pick ≡ Less → is_same q.pick x ≡ false
        behind Less e f l = absurd (false≢true e)
        behind Equal e f l = later_is_other r.pick x q.pick f l
        behind Greater e f l = absurd (false≢true e)

    by : unasked (map (forgotten x) rs) ≤ unasked rs + 1 → (b : Bool) → is_same r.pick x ≡ b → asking (cond b (unasked_root r.pick) r) + unasked (map (forgotten x) rs) ≤ (asking r + unasked rs) + 1
    by h true e =
        let a = ap unasked (nothing_forgotten x rs (λ q i. other q e i)) in
        let c = cost_small r.pick in omega (arith, a, c)
    by h false e = omega (arith, h)
