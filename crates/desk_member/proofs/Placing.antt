-- A membership that is put among others, or taken out of them, and the memberships of a member in the place of others.
use Rattle.std.proofs.Common.{◌≡◌, ℕ, ◌<◌, ◌≤◌, Bool, true, false, cond, not, ◌&&◌, ◌||◌, ◌==◌, nat_le, nat_lt, List, [], ◌∷◌, ◌++◌, inl, inr, refl, sym, ap, ◌∙◌, arith, append_assoc}
use Rattle.std.proofs.lemmas.Bool.{cases_lt}
use Rattle.std.proofs.lemmas.Bool.Decides.{nat_tests}
use Rattle.std.proofs.lemmas.List.{append-nil}
use Rattle.std.proofs.lemmas.List.Elements.{filter-append}
use Rattle.std.specs.Prelude.{filter}
use Rattle.std.specs.List.{AllByRecursion}
use Rattle.std.specs.Ordering.{nat_cmp, is_lt, ordering_then}
use Rattle.std.specs.declared.cmp.Ordering.{Ordering}
use Rattle.std.specs.declared.cmp.Ordering.TheVariants.{Less, Equal, Greater}
use Rattle.desk_base.specs.declared.rows.resources.MemberRow.{MemberRow}
use Rattle.desk_base.specs.declared.rows.tables.Key.{Key}
use Rattle.desk_base.specs.declared.rows.tables.AnyRow.TheVariants.{Member}
use Rattle.desk_base.specs.rows.Rows.{key_of}
use Rattle.desk_base.specs.rows.Ranges.{Rise, IsUnder}
use Rattle.desk_base.specs.changes.Changes.{is_below, rows_below, rows_above, with_one, without_one}
use Rattle.desk_base.proofs.lists.Members.{IsIn, all_from, all_at, in-append, in-filter}
use Rattle.desk_base.proofs.lists.Filtered.{all_pass, none_pass, pass_both}
use Rattle.desk_base.proofs.lists.Cuts.{IsCut, Rise-filter, all_step}
use Rattle.desk_member.specs.Memberships.{of_member, comes_before}

abbrev key : MemberRow → Key
key y = key_of (Member y)

-- ---- filters

alike : {A : Type 0} (p q : A → Bool) (xs : List A) → ((x : A) → IsIn x xs → p x ≡ q x) → filter p xs ≡ filter q xs
alike p q [] h = refl
alike p q (x ∷ xs) h = let e = h x (inl refl) in let r = alike p q xs (λ y i. h y (inr i)) in λ i. cond (e i) (x ∷ r i) (r i)

-- ---- the order of memberships

equal : (a b : ℕ) → (a == b) ≡ true → a ≡ b
equal a b e = grind (arith, nat_tests)

same : (a : ℕ) → (a == a) ≡ true
same a = grind (arith, nat_tests)

not_less : (a : ℕ) → nat_lt a a ≡ false
not_less a = grind (arith, nat_tests)

lt_is : (a b : ℕ) → is_lt (nat_cmp a b) ≡ nat_lt a b
lt_is a b = grind (arith, nat_tests)

cmp_same : (a : ℕ) → nat_cmp a a ≡ Equal
cmp_same a = grind (arith, nat_tests)

when_less : (a b : ℕ) → nat_cmp a b ≡ Less → nat_lt a b ≡ true
when_less a b e = grind (arith, nat_tests)

when_equal : (a b : ℕ) → nat_cmp a b ≡ Equal → (nat_lt a b ≡ false) × ((a == b) ≡ true)
when_equal a b e = (grind (arith, nat_tests), grind (arith, nat_tests))

when_greater : (a b : ℕ) → nat_cmp a b ≡ Greater → (nat_lt a b ≡ false) × ((a == b) ≡ false)
when_greater a b e = (grind (arith, nat_tests), grind (arith, nat_tests))

by_numbers : (g h m f k : ℕ) → (nat_lt g h || ((g == h) && nat_lt f k)) ≡ is_lt (ordering_then (nat_cmp g h) (ordering_then (nat_cmp m m) (nat_cmp f k)))
by_numbers g h m f k = by (nat_cmp g h) refl
  where
    by : (o : Ordering) → nat_cmp g h ≡ o → (nat_lt g h || ((g == h) && nat_lt f k)) ≡ is_lt (ordering_then o (ordering_then (nat_cmp m m) (nat_cmp f k)))
    by Less e = ap (λ b. b || ((g == h) && nat_lt f k)) (when_less g h e)
    by Equal e =
        let a = when_equal g h e in
        (λ i. a.0 i || (a.1 i && nat_lt f k)) ∙ sym (lt_is f k) ∙ sym (ap (λ o. is_lt (ordering_then o (nat_cmp f k))) (cmp_same m))
    by Greater e = let a = when_greater g h e in λ i. a.0 i || (a.1 i && nat_lt f k)

-- of one member the order is that of their keys
before_is : (x y : MemberRow) → x.member ≡ y.member → comes_before x y ≡ is_below (key x) (key y)
before_is x y e =
    (λ i. nat_lt (e i) y.member || ((e i == y.member) && (nat_lt x.group y.group || ((x.group == y.group) && nat_lt x.from y.from))))
    ∙ (λ i. not_less y.member i || (same y.member i && (nat_lt x.group y.group || ((x.group == y.group) && nat_lt x.from y.from))))
    ∙ by_numbers x.group y.group y.member x.from y.from
    ∙ sym (ap (λ n. is_lt (ordering_then (nat_cmp x.group y.group) (ordering_then (nat_cmp n y.member) (nat_cmp x.from y.from)))) e)

-- ---- the memberships of one member, with one of them and without it

abbrev pub AreOf : ℕ → List MemberRow → Type 0
AreOf m rows = AllByRecursion (λ (x : MemberRow). x.member ≡ m) rows

pub own_are : (m : ℕ) (rows : List MemberRow) → AreOf m (of_member m rows)
own_are m rows = all_from (λ (x : MemberRow). x.member ≡ m) (of_member m rows) (λ x i. equal x.member m (in-filter (λ (y : MemberRow). y.member == m) x rows i).1)

module _ (row : MemberRow) (own : List MemberRow) (h : AreOf row.member own) where
  abbrev lower : List MemberRow
  lower = filter (λ y. comes_before y row) own

  abbrev upper : List MemberRow
  upper = filter (λ y. comes_before row y) own

  is_own : (y : MemberRow) → IsIn y own → y.member ≡ row.member
  is_own y i = all_at (λ (x : MemberRow). x.member ≡ row.member) own y h i

  lower_is : lower ≡ rows_below key (key row) own
  lower_is = alike (λ y. comes_before y row) (λ y. is_below (key y) (key row)) own (λ y i. before_is y row (is_own y i))

  upper_is : upper ≡ rows_above key (key row) own
  upper_is = alike (λ y. comes_before row y) (λ y. is_below (key row) (key y)) own (λ y i. before_is row y (sym (is_own y i)))

  pub own_with : (lower ++ row ∷ []) ++ upper ≡ with_one key row own
  unfolding with_one
  own_with = let a = lower_is in let b = upper_is in append_assoc lower (row ∷ []) upper ∙ (λ i. a i ++ row ∷ b i)

  pub own_without : lower ++ upper ≡ without_one key (key row) own
  unfolding without_one
  own_without = let a = lower_is in let b = upper_is in λ i. a i ++ b i

  lower_own : (y : MemberRow) → IsIn y lower → y.member ≡ row.member
  lower_own y i = is_own y (in-filter (λ z. comes_before z row) y own i).0

  upper_own : (y : MemberRow) → IsIn y upper → y.member ≡ row.member
  upper_own y i = is_own y (in-filter (λ z. comes_before row z) y own i).0

  pub are_with : AreOf row.member ((lower ++ row ∷ []) ++ upper)
  are_with =
      all_from (λ (x : MemberRow). x.member ≡ row.member) ((lower ++ row ∷ []) ++ upper) (λ y i. elim (in-append y (lower ++ row ∷ []) upper i) [
        | inl j ↦ elim (in-append y lower (row ∷ []) j) [
          | inl k ↦ lower_own y k
          | inr (inl e) ↦ ap (λ (x : MemberRow). x.member) e
          | inr (inr n) ↦ absurd n
        ]
        | inr j ↦ upper_own y j
      ])

  pub are_without : AreOf row.member (lower ++ upper)
  are_without = all_from (λ (x : MemberRow). x.member ≡ row.member) (lower ++ upper) (λ y i. elim (in-append y lower upper i) [ inl j ↦ lower_own y j | inr j ↦ upper_own y j ])

-- ---- rows that rise by a number

module _ {A : Type 0} (owner : A → ℕ) where
  pub cut_up_to : (o : ℕ) (xs : List A) → Rise owner (λ _. 0) xs → IsCut (λ x. nat_le (owner x) o) xs
  unfolding Rise
  cut_up_to o [] h = tt
  cut_up_to o (x ∷ xs) h = (
    λ e. all_step (IsUnder owner (λ _. 0) x) (λ y. nat_le (owner y) o ≡ false) xs (λ y u. later y u (past (owner x) e)) h.0,
    cut_up_to o xs h.1,
  )
    where
      past : (a : ℕ) → nat_le a o ≡ false → o < a
      past a e = grind (arith, nat_tests)

      later : (y : A) → IsUnder owner (λ _. 0) x y → o < owner x → nat_le (owner y) o ≡ false
      later y (inl l) b = let c : o < owner y = omega arith in grind (arith, nat_tests)
      later y (inr (e, l)) b = let c : o < owner y = omega arith in grind (arith, nat_tests)

  -- the rows that are not up to a number are above it
  pub above_is : (o : ℕ) (xs : List A) → filter (λ x. not (nat_le (owner x) o)) xs ≡ filter (λ x. nat_lt o (owner x)) xs
  above_is o xs = alike (λ x. not (nat_le (owner x) o)) (λ x. nat_lt o (owner x)) xs (λ x i. beyond (owner x))
    where
      beyond : (a : ℕ) → not (nat_le a o) ≡ nat_lt o a
      beyond a = grind (arith, nat_tests)

  under : (x y : A) → owner x ≤ owner y → IsUnder owner (λ _. 0) x y
  under x y l = elim (cases_lt (owner x) (owner y)) [ inl a ↦ inl a | inr b ↦ inr (omega arith, omega arith) ]

  rise-append : (xs ys : List A) → Rise owner (λ _. 0) xs → Rise owner (λ _. 0) ys → ((x y : A) → IsIn x xs → IsIn y ys → owner x ≤ owner y) → Rise owner (λ _. 0) (xs ++ ys)
  unfolding Rise
  rise-append [] ys a b h = b
  rise-append (x ∷ xs) ys a b h = (
    all_from (IsUnder owner (λ _. 0) x) (xs ++ ys) (λ y i. elim (in-append y xs ys i) [ inl j ↦ all_at (IsUnder owner (λ _. 0) x) xs y a.0 j | inr j ↦ under x y (h x y (inl refl) j) ]),
    rise-append xs ys a.1 b (λ z y i j. h z y (inr i) j),
  )

  rise_alone : (o : ℕ) (xs : List A) → AllByRecursion (λ x. owner x ≡ o) xs → Rise owner (λ _. 0) xs
  unfolding Rise
  rise_alone o [] h = tt
  rise_alone o (x ∷ xs) h = (
    all_from (IsUnder owner (λ _. 0) x) xs (λ y i. let a = h.0 in let b = all_at (λ z. owner z ≡ o) xs y h.1 i in under x y (omega arith)),
    rise_alone o xs h.1,
  )

  module _ (o : ℕ) (own xs : List A) (h : AllByRecursion (λ x. owner x ≡ o) own) where
    abbrev lesser : List A
    lesser = filter (λ x. nat_lt (owner x) o) xs

    abbrev greater : List A
    greater = filter (λ x. nat_lt o (owner x)) xs

    less : (a b : ℕ) → nat_lt a b ≡ true → a < b
    less a b e = grind (arith, nat_tests)

    lesser_in : (x : A) → IsIn x lesser → owner x < o
    lesser_in x i = less (owner x) o (in-filter (λ z. nat_lt (owner z) o) x xs i).1

    greater_in : (x : A) → IsIn x greater → o < owner x
    greater_in x i = less o (owner x) (in-filter (λ z. nat_lt o (owner z)) x xs i).1

    own_in : (x : A) → IsIn x own → owner x ≡ o
    own_in x i = all_at (λ z. owner z ≡ o) own x h i

    -- rows with some of one number in the place of those that have it
    pub rise_around : Rise owner (λ _. 0) xs → Rise owner (λ _. 0) ((lesser ++ own) ++ greater)
    rise_around s =
        rise-append (lesser ++ own) greater
        (rise-append lesser own (Rise-filter owner (λ _. 0) (λ x. nat_lt (owner x) o) xs s) (rise_alone o own h) (λ x y i j. let p = lesser_in x i in let q = own_in y j in omega arith))
        (Rise-filter owner (λ _. 0) (λ x. nat_lt o (owner x)) xs s)
        (λ x y i j. let q = greater_in y j in elim (in-append x lesser own i) [
          | inl k ↦ let p = lesser_in x k in omega arith
          | inr k ↦ let p = own_in x k in omega arith
        ])

-- ---- the memberships of a member in the place of those that it has

module _ (m : ℕ) (own rows : List MemberRow) (h : AreOf m own) where
  abbrev low : List MemberRow
  low = filter (λ (x : MemberRow). nat_lt x.member m) rows

  abbrev high : List MemberRow
  high = filter (λ (x : MemberRow). nat_lt m x.member) rows

  parts : (r : ℕ) → of_member r ((low ++ own) ++ high) ≡ (of_member r low ++ of_member r own) ++ of_member r high
  parts r =
      filter-append (λ (x : MemberRow). x.member == r) (low ++ own) high
      ∙ ap (λ l. l ++ of_member r high) (filter-append (λ (x : MemberRow). x.member == r) low own)

  low_none : (r : ℕ) → m ≤ r → of_member r low ≡ []
  low_none r l = none_pass (λ (x : MemberRow). x.member == r) low (λ y i. other y.member (in-filter (λ (x : MemberRow). nat_lt x.member m) y rows i).1)
    where
      other : (a : ℕ) → nat_lt a m ≡ true → (a == r) ≡ false
      other a e = grind (arith, nat_tests)

  high_none : (r : ℕ) → r ≤ m → of_member r high ≡ []
  high_none r l = none_pass (λ (x : MemberRow). x.member == r) high (λ y i. other y.member (in-filter (λ (x : MemberRow). nat_lt m x.member) y rows i).1)
    where
      other : (a : ℕ) → nat_lt m a ≡ true → (a == r) ≡ false
      other a e = grind (arith, nat_tests)

  low_all : (r : ℕ) → r < m → of_member r low ≡ of_member r rows
  low_all r l = pass_both (λ (x : MemberRow). x.member == r) (λ x. nat_lt x.member m) (λ x e. passes x.member e) rows
    where
      passes : (a : ℕ) → (a == r) ≡ true → nat_lt a m ≡ true
      passes a e = grind (arith, nat_tests)

  high_all : (r : ℕ) → m < r → of_member r high ≡ of_member r rows
  high_all r l = pass_both (λ (x : MemberRow). x.member == r) (λ x. nat_lt m x.member) (λ x e. passes x.member e) rows
    where
      passes : (a : ℕ) → (a == r) ≡ true → nat_lt m a ≡ true
      passes a e = grind (arith, nat_tests)

  pub own_around : of_member m ((low ++ own) ++ high) ≡ own
  own_around =
      let a = low_none m (omega arith) in
      let b = all_pass (λ (x : MemberRow). x.member == m) own (λ y i. ap (λ n. n == m) (all_at (λ (x : MemberRow). x.member ≡ m) own y h i) ∙ same m) in
      let c = high_none m (omega arith) in
      parts m ∙ (λ i. (a i ++ b i) ++ c i) ∙ append-nil own

  own_none : (r : ℕ) → (m == r) ≡ false → of_member r own ≡ []
  own_none r e = none_pass (λ (x : MemberRow). x.member == r) own (λ y i. ap (λ n. n == r) (all_at (λ (x : MemberRow). x.member ≡ m) own y h i) ∙ e)

  pub others_around : (r : ℕ) → (m == r) ≡ false → of_member r ((low ++ own) ++ high) ≡ of_member r rows
  others_around r e = elim (cases_lt r m) [
    | inl l ↦
        let a = low_all r l in
        let b = own_none r e in
        let c = high_none r (omega arith) in
        parts r ∙ (λ i. (a i ++ b i) ++ c i) ∙ append-nil (of_member r rows ++ []) ∙ append-nil (of_member r rows)
    | inr l ↦
        let a = low_none r l in
        let b = own_none r e in
        let c = high_all r (higher m r l e) in
        parts r ∙ (λ i. (a i ++ b i) ++ c i)
  ]
    where
      higher : (a b : ℕ) → a ≤ b → (a == b) ≡ false → a < b
      higher a b l f = grind (arith, nat_tests)
