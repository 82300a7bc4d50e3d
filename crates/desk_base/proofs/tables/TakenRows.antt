-- Lists of rows of which some are taken out, or to which rows are put after all that stand.
use Rattle.std.proofs.Common.{◌≡◌, ◌≢◌, false, List, [], ◌∷◌, ◌++◌, map, inl, inr, refl, sym, ap, ◌∙◌, subst, append_assoc}
use Rattle.std.proofs.lemmas.Cmp.{on_total}
use Rattle.std.proofs.lemmas.List.{append-nil, map-append}
use Rattle.std.specs.Prelude.{fold}
use Rattle.std.specs.List.Sorted.{IsStrictlySortedBy}
use Rattle.std.specs.declared.cmp.Ordering.TheVariants.{Less}
use Rattle.std.specs.Ordering.{ordering_reverse, is_lt}
use Rattle.desk_base.specs.rows.Types.{Key, AnyRow}
use Rattle.desk_base.specs.rows.Keys.{key_cmp}
use Rattle.desk_base.specs.rows.Rows.{key_of}
use Rattle.desk_base.specs.rows.Lookups.{keys_by}
use Rattle.desk_base.specs.changes.Changes.{is_below, rows_below, rows_above, with_one, without_one}
use Rattle.desk_base.proofs.lists.Members.{IsIn, all_at, all_from, in-append, in_left, in_right, in-map, in_mapped, in-filter, in_filtered, sorted-append}
use Rattle.desk_base.proofs.lists.Filtered.{all_pass, none_pass}
use Rattle.desk_base.proofs.tables.Sounds.{key_total}
use Rattle.desk_base.proofs.lists.Orders.{not_itself, same_sorted}
use Rattle.desk_base.proofs.tables.WithOne.{key_cases, not_below_itself}
use Rattle.desk_base.proofs.tables.KeyRises.{rise-without_one}

not_above : (j k : Key) → key_cmp j k ≡ Less → is_below k j ≡ false
not_above j k e = ap is_lt (key_total.antisymm k j ∙ ap ordering_reverse e)

module _ {R : Type 0} (any : R → AnyRow) where
  -- the keys of rows rise
  abbrev pub Rise : List R → Type 0
  Rise rows = IsStrictlySortedBy key_cmp (keys_by any rows)

  abbrev key : R → Key
  key y = key_of (any y)

  key_in : (y : R) (rows : List R) → IsIn y rows → IsIn (key y) (keys_by any rows)
  key_in y rows i = in_mapped key_of (any y) (map any rows) (in_mapped any y rows i)

  in_keys : (k : Key) (rows : List R) → IsIn k (keys_by any rows) → (y : R) × IsIn y rows × (k ≡ key y)
  in_keys k rows i =
      let h = in-map key_of k (map any rows) i in
      let g = in-map any h.0 rows h.1 in
      (g.0, g.1, h.2 ∙ ap key_of g.2)

  -- ---- rows of rising keys

  apart : (x w : R) (rows : List R) → Rise (x ∷ rows) → IsIn w rows → key x ≢ key w
  unfolding IsStrictlySortedBy
  apart x w rows s i e = not_itself key_cmp key_total (key x) (subst (λ l. key_cmp (key x) l ≡ Less) (sym e) (all_at (λ l. key_cmp (key x) l ≡ Less) (keys_by any rows) (key w) s.0 (key_in w rows i)))

  -- rows of one key are one
  pub one_row : (rows : List R) (y z : R) → Rise rows → IsIn y rows → IsIn z rows → key y ≡ key z → y ≡ z
  unfolding IsStrictlySortedBy
  one_row [] y z s i j e = absurd i
  one_row (x ∷ rows) y z s (inl f) (inl g) e = f ∙ sym g
  one_row (x ∷ rows) y z s (inl f) (inr j) e = absurd (apart x z rows s j (sym (ap key f) ∙ e))
  one_row (x ∷ rows) y z s (inr i) (inl g) e = absurd (apart x y rows s i (sym (e ∙ ap key g)))
  one_row (x ∷ rows) y z s (inr i) (inr j) e = one_row rows y z s.1 i j e

  rows_rise : (rows : List R) → Rise rows → IsStrictlySortedBy (λ x y. key_cmp (key x) (key y)) rows
  unfolding IsStrictlySortedBy
  rows_rise [] s = tt
  rows_rise (x ∷ rows) s = (all_from (λ y. key_cmp (key x) (key y) ≡ Less) rows (λ y i. all_at (λ k. key_cmp (key x) k ≡ Less) (keys_by any rows) (key y) s.0 (key_in y rows i)), rows_rise rows s.1)

  -- and they are known by which rows they are
  pub same_rows : (xs ys : List R) → Rise xs → Rise ys → ((z : R) → IsIn z xs → IsIn z ys) → ((z : R) → IsIn z ys → IsIn z xs) → xs ≡ ys
  same_rows xs ys s u f g = same_sorted (λ x y. key_cmp (key x) (key y)) (on_total key key_total) xs ys (rows_rise xs s) (rows_rise ys u) f g

  pub joined_rise : (xs ys : List R) → Rise xs → Rise ys → ((x y : R) → IsIn x xs → IsIn y ys → key_cmp (key x) (key y) ≡ Less) → Rise (xs ++ ys)
  joined_rise xs ys s u h =
      subst (IsStrictlySortedBy key_cmp) (sym (ap (map key_of) (map-append any xs ys) ∙ map-append key_of (map any xs) (map any ys)))
      (sorted-append key_cmp (keys_by any xs) (keys_by any ys) s u (λ k l i j.
      let x = in_keys k xs i in
      let y = in_keys l ys j in
      subst (λ m. key_cmp m l ≡ Less) (sym x.2) (subst (λ m. key_cmp (key x.0) m ≡ Less) (sym y.2) (h x.0 y.0 x.1 y.1))))

  -- ---- rows that are taken out

  pub in-without_one : (k : Key) (y : R) (rows : List R) → IsIn y (without_one (λ z. key_of (any z)) k rows) → IsIn y rows × (key y ≢ k)
  unfolding without_one
  in-without_one k y rows i = elim (in-append y (rows_below (λ z. key_of (any z)) k rows) (rows_above (λ z. key_of (any z)) k rows) i) [
    | inl j ↦ let h = in-filter (λ z. is_below (key z) k) y rows j in (h.0, λ e. not_below_itself k (ap (λ l. is_below l k) (sym e) ∙ h.1))
    | inr j ↦ let h = in-filter (λ z. is_below k (key z)) y rows j in (h.0, λ e. not_below_itself k (ap (is_below k) (sym e) ∙ h.1))
  ]

  pub in_without : (k : Key) (y : R) (rows : List R) → IsIn y rows → key y ≢ k → IsIn y (without_one (λ z. key_of (any z)) k rows)
  unfolding without_one
  in_without k y rows i n = elim (key_cases (key y) k) [
    | inl e ↦ in_left y (rows_below (λ z. key_of (any z)) k rows) (rows_above (λ z. key_of (any z)) k rows) (in_filtered (λ z. is_below (key z) k) y rows i e)
    | inr (inl e) ↦ in_right y (rows_below (λ z. key_of (any z)) k rows) (rows_above (λ z. key_of (any z)) k rows) (in_filtered (λ z. is_below k (key z)) y rows i e)
    | inr (inr e) ↦ absurd (n e)
  ]

  -- the rows without those of the keys of others, one after another
  abbrev pub taken : List R → List R → List R
  taken rows gone = fold (λ l x. without_one (λ z. key_of (any z)) (key_of (any x)) l) rows gone

  pub in-taken : (y : R) (rows gone : List R) → IsIn y (taken rows gone) → IsIn y rows × ((z : R) → IsIn z gone → key y ≢ key z)
  in-taken y rows [] i = (i, λ z j. absurd j)
  in-taken y rows (x ∷ gone) i =
      let h = in-taken y (without_one (λ z. key_of (any z)) (key x) rows) gone i in
      let f = in-without_one (key x) y rows h.0 in
      (f.0, λ z j. elim j [ inl e ↦ subst (λ w. key y ≢ key w) (sym e) f.1 | inr k ↦ h.1 z k ])

  pub in_taken : (y : R) (rows gone : List R) → IsIn y rows → ((z : R) → IsIn z gone → key y ≢ key z) → IsIn y (taken rows gone)
  in_taken y rows [] i h = i
  in_taken y rows (x ∷ gone) i h = in_taken y (without_one (λ z. key_of (any z)) (key x) rows) gone (in_without (key x) y rows i (h x (inl refl))) (λ z j. h z (inr j))

  pub taken_rise : (rows gone : List R) → Rise rows → Rise (taken rows gone)
  taken_rise rows [] s = s
  taken_rise rows (x ∷ gone) s = taken_rise (without_one (λ z. key_of (any z)) (key x) rows) gone (rise-without_one any (key x) rows s)

  -- ---- rows that are put after all that stand

  -- the rows with others, one after another
  abbrev pub put : List R → List R → List R
  put rows new = fold (λ l x. with_one (λ z. key_of (any z)) x l) rows new

  with_last : (x : R) (rows : List R) → ((y : R) → IsIn y rows → key_cmp (key y) (key x) ≡ Less) → with_one (λ z. key_of (any z)) x rows ≡ rows ++ x ∷ []
  unfolding with_one
  with_last x rows h =
      let below = all_pass (λ y. is_below (key y) (key x)) rows (λ y i. ap is_lt (h y i)) in
      let above = none_pass (λ y. is_below (key x) (key y)) rows (λ y i. not_above (key y) (key x) (h y i)) in
      λ i. below i ++ x ∷ above i

  below_next : (x : R) (rows new : List R) → Rise (rows ++ x ∷ new) → (y : R) → IsIn y rows → key_cmp (key y) (key x) ≡ Less
  unfolding IsStrictlySortedBy
  below_next x [] new s y i = absurd i
  below_next x (z ∷ rows) new s y (inl e) =
      subst (λ w. key_cmp (key w) (key x) ≡ Less) (sym e)
      (all_at (λ k. key_cmp (key z) k ≡ Less) (keys_by any (rows ++ x ∷ new)) (key x) s.0 (key_in x (rows ++ x ∷ new) (in_right x rows (x ∷ new) (inl refl))))
  below_next x (z ∷ rows) new s y (inr i) = below_next x rows new s.1 y i

  pub put_after : (rows new : List R) → Rise (rows ++ new) → put rows new ≡ rows ++ new
  put_after rows [] s = sym (append-nil rows)
  put_after rows (x ∷ new) s =
      let one_by_one = append_assoc rows (x ∷ []) new in
      ap (λ l. put l new) (with_last x rows (below_next x rows new s)) ∙ put_after (rows ++ x ∷ []) new (subst Rise (sym one_by_one) s) ∙ one_by_one
