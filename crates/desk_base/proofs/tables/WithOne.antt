-- Lists of rows with one more, which stands in the place of the row of its key: their rows, their order and their length.
use Rattle.std.proofs.Common.{◌≡◌, ◌≢◌, ℕ, suc, ◌+◌, ◌≤◌, Bool, true, false, cond, List, [], ◌∷◌, ◌++◌, map, filter, length, ◌⊎◌, inl, inr, refl, sym, ap, ◌∙◌, subst, arith, length-append}
use Rattle.std.proofs.lemmas.Bool.{false≢true}
use Rattle.std.proofs.lemmas.Cmp.{tied_itself}
use Rattle.std.proofs.lemmas.List.{map-append}
use Rattle.std.specs.List.Sorted.{IsStrictlySortedBy}
use Rattle.std.specs.declared.cmp.Ordering.{Ordering}
use Rattle.std.specs.declared.cmp.Ordering.TheVariants.{Less, Equal, Greater}
use Rattle.std.specs.Ordering.{ordering_reverse, is_lt, is_eq}
use Rattle.desk_base.specs.rows.Types.{Key}
use Rattle.desk_base.specs.rows.Keys.{key_cmp}
use Rattle.desk_base.specs.changes.Changes.{is_below, rows_below, rows_above, with_one, without_one}
use Rattle.desk_base.proofs.lists.Members.{IsIn, all_from, all_at, in-append, in_left, in_right, in-map, in_mapped, in-filter, in_filtered, sorted-append}
use Rattle.desk_base.proofs.tables.Sounds.{key_total}
use Rattle.desk_base.proofs.tables.KeyOrder.{same_key}

pub is_less : (r : Ordering) → is_lt r ≡ true → r ≡ Less
is_less Less e = refl
is_less Equal e = absurd (false≢true e)
is_less Greater e = absurd (false≢true e)

-- one key comes before another, or after it, or they are one
pub key_cases : (j k : Key) → (is_below j k ≡ true) ⊎ (is_below k j ≡ true) ⊎ (j ≡ k)
key_cases j k = go (key_cmp j k) refl
  where
    go : (r : Ordering) → key_cmp j k ≡ r → (is_below j k ≡ true) ⊎ (is_below k j ≡ true) ⊎ (j ≡ k)
    go Less e = inl (ap is_lt e)
    go Equal e = inr (inr (same_key j k e))
    go Greater e = inr (inl (ap is_lt (key_total.antisymm k j ∙ ap ordering_reverse e)))

pub not_below_itself : (k : Key) → is_below k k ≡ true → ⊥
not_below_itself k h = false≢true (sym (ap is_lt (tied_itself key_total k)) ∙ h)

module _ {R : Type 0} (key : R → Key) where
  -- ---- its rows

  -- a key that is below one, or above it, is another
  below_is_other : (y x : R) → is_below (key y) (key x) ≡ true → key y ≢ key x
  below_is_other y x h e = not_below_itself (key x) (ap (λ k. is_below k (key x)) (sym e) ∙ h)

  above_is_other : (y x : R) → is_below (key x) (key y) ≡ true → key y ≢ key x
  above_is_other y x h e = not_below_itself (key x) (ap (is_below (key x)) (sym e) ∙ h)

  -- each is the new one, or was there and has another key
  pub in-with_one : (x y : R) (rows : List R) → IsIn y (with_one key x rows) → (y ≡ x) ⊎ (IsIn y rows × (key y ≢ key x))
  unfolding with_one
  in-with_one x y rows i = elim (in-append y (rows_below key (key x) rows) (x ∷ rows_above key (key x) rows) i) [
    | inl j ↦ let h = in-filter (λ z. is_below (key z) (key x)) y rows j in inr (h.0, below_is_other y x h.1)
    | inr (inl e) ↦ inl e
    | inr (inr j) ↦ let h = in-filter (λ z. is_below (key x) (key z)) y rows j in inr (h.0, above_is_other y x h.1)
  ]

  -- the new one is there
  pub in_new : (x : R) (rows : List R) → IsIn x (with_one key x rows)
  unfolding with_one
  in_new x rows = in_right x (rows_below key (key x) rows) (x ∷ rows_above key (key x) rows) (inl refl)

  -- a row that was there stays, or its key is that of the new one
  pub in_kept : (x y : R) (rows : List R) → IsIn y rows → (key y ≡ key x) ⊎ IsIn y (with_one key x rows)
  unfolding with_one
  in_kept x y rows i = elim (key_cases (key y) (key x)) [
    | inl e ↦ inr (in_left y (rows_below key (key x) rows) (x ∷ rows_above key (key x) rows) (in_filtered (λ z. is_below (key z) (key x)) y rows i e))
    | inr (inl e) ↦ inr (in_right y (rows_below key (key x) rows) (x ∷ rows_above key (key x) rows) (inr (in_filtered (λ z. is_below (key x) (key z)) y rows i e)))
    | inr (inr e) ↦ inl e
  ]

  -- no key is lost
  pub key_kept : (x : R) (k : Key) (rows : List R) → IsIn k (map key rows) → IsIn k (map key (with_one key x rows))
  key_kept x k rows i =
      let h = in-map key k rows i in
      elim (in_kept x h.0 rows h.1) [
        | inl e ↦ subst (λ j. IsIn j (map key (with_one key x rows))) (sym (h.2 ∙ e)) (in_mapped key x (with_one key x rows) (in_new x rows))
        | inr j ↦ subst (λ j. IsIn j (map key (with_one key x rows))) (sym h.2) (in_mapped key h.0 (with_one key x rows) j)
      ]

  -- ---- their order

  -- keys that rise do so among the rows that pass a test
  pub rises-filter : (p : R → Bool) (rows : List R) → IsStrictlySortedBy key_cmp (map key rows) → IsStrictlySortedBy key_cmp (map key (filter p rows))
  unfolding IsStrictlySortedBy
  rises-filter p [] s = tt
  rises-filter p (y ∷ rows) s = step (p y) (rises-filter p rows s.1)
    where
      step : (b : Bool) → IsStrictlySortedBy key_cmp (map key (filter p rows)) → IsStrictlySortedBy key_cmp (map key (cond b (y ∷ filter p rows) (filter p rows)))
      step false r = r
      step true r = (
        all_from (λ k. key_cmp (key y) k ≡ Less) (map key (filter p rows)) (λ k i.
            let h = in-map key k (filter p rows) i in
            let later = in_mapped key h.0 rows (in-filter p h.0 rows h.1).0 in
            subst (λ j. key_cmp (key y) j ≡ Less) (sym h.2) (all_at (λ j. key_cmp (key y) j ≡ Less) (map key rows) (key h.0) s.0 later)),
        r,
      )

  below_is : (k j : Key) (rows : List R) → IsIn j (map key (rows_below key k rows)) → key_cmp j k ≡ Less
  below_is k j rows i =
      let h = in-map key j (rows_below key k rows) i in
      ap (λ l. key_cmp l k) h.2 ∙ is_less (key_cmp (key h.0) k) (in-filter (λ z. is_below (key z) k) h.0 rows h.1).1

  above_is : (k j : Key) (rows : List R) → IsIn j (map key (rows_above key k rows)) → key_cmp k j ≡ Less
  above_is k j rows i =
      let h = in-map key j (rows_above key k rows) i in
      ap (key_cmp k) h.2 ∙ is_less (key_cmp k (key h.0)) (in-filter (λ z. is_below k (key z)) h.0 rows h.1).1

  -- keys that rise do so with one more row
  pub rises-with_one : (x : R) (rows : List R) → IsStrictlySortedBy key_cmp (map key rows) → IsStrictlySortedBy key_cmp (map key (with_one key x rows))
  unfolding IsStrictlySortedBy with_one
  rises-with_one x rows s =
      let below = rows_below key (key x) rows in
      let above = rows_above key (key x) rows in
      subst (IsStrictlySortedBy key_cmp) (sym (map-append key below (x ∷ above)))
      (sorted-append key_cmp (map key below) (key x ∷ map key above) (rises-filter (λ z. is_below (key z) (key x)) rows s)
      (all_from (λ k. key_cmp (key x) k ≡ Less) (map key above) (λ k i. above_is (key x) k rows i), rises-filter (λ z. is_below (key x) (key z)) rows s)
      (λ k j i h. elim h [
        | inl e ↦ subst (λ l. key_cmp k l ≡ Less) (sym e) (below_is (key x) k rows i)
        | inr a ↦ key_total.trans k (key x) j (below_is (key x) k rows i) (above_is (key x) j rows a)
      ]))

  -- and with the row of a key taken out
  pub rises-without_one : (k : Key) (rows : List R) → IsStrictlySortedBy key_cmp (map key rows) → IsStrictlySortedBy key_cmp (map key (without_one key k rows))
  unfolding without_one
  rises-without_one k rows s =
      let below = rows_below key k rows in
      let above = rows_above key k rows in
      subst (IsStrictlySortedBy key_cmp) (sym (map-append key below above))
      (sorted-append key_cmp (map key below) (map key above) (rises-filter (λ z. is_below (key z) k) rows s) (rises-filter (λ z. is_below k (key z)) rows s)
      (λ i j a b. key_total.trans i k j (below_is k i rows a) (above_is k j rows b)))

  -- ---- their length

  -- the rows of a key
  abbrev rows_at : Key → List R → List R
  rows_at k rows = filter (λ y. is_eq (key_cmp (key y) k)) rows

  count_step : (r q : Ordering) (y : R) (a b c ys : List R) → q ≡ ordering_reverse r → length a + length b + length c ≡ length ys
      → length (cond (is_lt r) (y ∷ a) a) + length (cond (is_lt q) (y ∷ b) b) + length (cond (is_eq r) (y ∷ c) c) ≡ suc (length ys)
  count_step Less q y a b c ys e h = let f = ap is_lt e in rw f (omega arith)
  count_step Equal q y a b c ys e h = let f = ap is_lt e in rw f (omega arith)
  count_step Greater q y a b c ys e h = let f = ap is_lt e in rw f (omega arith)

  -- each row is below a key, above it or at it
  count_parts : (k : Key) (rows : List R) → length (rows_below key k rows) + length (rows_above key k rows) + length (rows_at k rows) ≡ length rows
  count_parts k [] = refl
  count_parts k (y ∷ rows) = count_step (key_cmp (key y) k) (key_cmp k (key y)) y (rows_below key k rows) (rows_above key k rows) (rows_at k rows) rows (key_total.antisymm k (key y)) (count_parts k rows)

  -- with one more row they are one more, but for those of its key
  pub length-with_one : (x : R) (rows : List R) → length (with_one key x rows) + length (rows_at (key x) rows) ≡ suc (length rows)
  unfolding with_one
  length-with_one x rows =
      let a = length-append (rows_below key (key x) rows) (x ∷ rows_above key (key x) rows) in
      let b = count_parts (key x) rows in omega arith

  length_in : (y : R) (rows : List R) → IsIn y rows → 1 ≤ length rows
  length_in y [] i = absurd i
  length_in y (x ∷ rows) i = omega arith

  none_at_key : (k : Key) (rows : List R) → ((y : R) → IsIn y rows → key y ≢ k) → ◌≡◌ {A = ℕ} (length (rows_at k rows)) 0
  none_at_key k [] h = refl
  none_at_key k (y ∷ rows) h = step (key_cmp (key y) k) refl (none_at_key k rows (λ z i. h z (inr i)))
    where
      step : (r : Ordering) → key_cmp (key y) k ≡ r → ◌≡◌ {A = ℕ} (length (rows_at k rows)) 0 → ◌≡◌ {A = ℕ} (length (cond (is_eq r) (y ∷ rows_at k rows) (rows_at k rows))) 0
      step Less e f = f
      step Equal e f = absurd (h y (inl refl) (same_key (key y) k e))
      step Greater e f = f

  -- of keys that rise one at most is a given one
  one_at_key : (k : Key) (rows : List R) → IsStrictlySortedBy key_cmp (map key rows) → length (rows_at k rows) ≤ 1
  unfolding IsStrictlySortedBy
  one_at_key k [] s = omega arith
  one_at_key k (y ∷ rows) s = step (key_cmp (key y) k) refl (one_at_key k rows s.1)
    where
      later : key y ≡ k → (z : R) → IsIn z rows → key z ≢ k
      later e z i f = not_below_itself k (ap is_lt (ap (λ j. key_cmp j k) (sym e) ∙ ap (key_cmp (key y)) (sym f) ∙ all_at (λ j. key_cmp (key y) j ≡ Less) (map key rows) (key z) s.0 (in_mapped key z rows i)))

      step : (r : Ordering) → key_cmp (key y) k ≡ r → length (rows_at k rows) ≤ 1 → length (cond (is_eq r) (y ∷ rows_at k rows) (rows_at k rows)) ≤ 1
      step Less e f = f
      step Equal e f = let none = none_at_key k rows (later (same_key (key y) k e)) in omega arith
      step Greater e f = f

  -- at most one more
  pub length_more : (x : R) (rows : List R) → length (with_one key x rows) ≤ suc (length rows)
  length_more x rows = let e = length-with_one x rows in omega arith

  -- one more where the key is new
  pub length_new : (x : R) (rows : List R) → ((y : R) → IsIn y rows → key y ≢ key x) → length (with_one key x rows) ≡ suc (length rows)
  length_new x rows h = let e = length-with_one x rows in let n = none_at_key (key x) rows h in omega arith

  at_key : (x y : R) (rows : List R) → IsIn y rows → key y ≡ key x → 1 ≤ length (rows_at (key x) rows)
  at_key x y rows i e = length_in y (rows_at (key x) rows) (in_filtered (λ z. is_eq (key_cmp (key z) (key x))) y rows i (ap (λ k. is_eq (key_cmp k (key x))) e ∙ ap is_eq (tied_itself key_total (key x))))

  -- none more where it stands
  pub length_stays : (x y : R) (rows : List R) → IsIn y rows → key y ≡ key x → length (with_one key x rows) ≤ length rows
  length_stays x y rows i e = let c = length-with_one x rows in let h = at_key x y rows i e in omega arith

  -- and as many where the keys rise
  pub length_same : (x y : R) (rows : List R) → IsStrictlySortedBy key_cmp (map key rows) → IsIn y rows → key y ≡ key x → length (with_one key x rows) ≡ length rows
  length_same x y rows s i e = let c = length-with_one x rows in let h = at_key x y rows i e in let m = one_at_key (key x) rows s in omega arith

-- ---- rows of one table among those of any

module _ {R A : Type 0} (key : A → Key) (con : R → A) where
  pub map-filter : (p : A → Bool) (rows : List R) → map con (filter (λ y. p (con y)) rows) ≡ filter p (map con rows)
  map-filter p [] = refl
  map-filter p (y ∷ rows) = step (p (con y)) (map-filter p rows)
    where
      step : (b : Bool) → map con (filter (λ y. p (con y)) rows) ≡ filter p (map con rows) → map con (cond b (y ∷ filter (λ y. p (con y)) rows) (filter (λ y. p (con y)) rows)) ≡ cond b (con y ∷ filter p (map con rows)) (filter p (map con rows))
      step true e = ap (λ l. con y ∷ l) e
      step false e = e

  pub map-with_one : (x : R) (rows : List R) → map con (with_one (λ y. key (con y)) x rows) ≡ with_one key (con x) (map con rows)
  unfolding with_one
  map-with_one x rows =
      let k = key (con x) in
      map-append con (rows_below (λ y. key (con y)) k rows) (x ∷ rows_above (λ y. key (con y)) k rows)
      ∙ ap (λ l. l ++ con x ∷ map con (rows_above (λ y. key (con y)) k rows)) (map-filter (λ a. is_below (key a) k) rows)
      ∙ ap (λ l. rows_below key k (map con rows) ++ con x ∷ l) (map-filter (λ a. is_below k (key a)) rows)
