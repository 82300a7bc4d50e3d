-- The positions that are due, one after the other, and those that are due behind the last that was passed.
use Rattle.std.proofs.Common.{◌≡◌, ℕ, suc, ◌+◌, ◌-◌, ◌<◌, ◌≤◌, Bool, true, false, cond, ◌&&◌, ◌==◌, nat_lt, min, List, [], ◌∷◌, ◌++◌, map, filter, length, length-append, Option, Some, None, ◌⊎◌, inl, inr, refl, sym, ap, ◌∙◌, subst, arith, append_assoc, if◌then◌else◌}
use Rattle.std.specs.Ordering.{is_lt, nat_cmp, ordering_then}
use Rattle.std.specs.Cmp.Lexicographic.{slice_cmp}
use Rattle.std.specs.List.Sorted.{IsStrictlySortedBy}
use Rattle.std.specs.declared.cmp.Ordering.{Ordering}
use Rattle.std.specs.declared.cmp.Ordering.TheVariants.{Less, Equal, Greater}
use Rattle.std.proofs.lemmas.Bool.{false≢true}
use Rattle.std.proofs.lemmas.Bool.Decides.{nat_tests}
use Rattle.std.proofs.lemmas.List.Elements.{filter-append}
use Rattle.desk_base.specs.rows.Types.{Position, Found}
use Rattle.desk_base.specs.search.Order.{position_cmp, pick_cmp}
use Rattle.desk_base.specs.search.OrderLaws.{position_total}
use Rattle.desk_base.specs.rules.Limits.{page_limit}
use Rattle.desk_base.specs.search.Positions.{is_full, found_of, precedes, rows_among}
use Rattle.desk_base.specs.search.Listing.{rows_before}
use Rattle.desk_base.specs.search.Page.{ResumePoint, shown_before, rows_at, due_of}
use Rattle.desk_base.proofs.lists.Members.{IsIn, all_at, in_right}
use Rattle.desk_base.proofs.lists.Filtered.{none_pass}
use Rattle.desk_base.proofs.lists.Orders.{not_itself, not_both}

-- ---- numbers

nat_same : (n : ℕ) → (n == n) ≡ true
nat_same n = grind (arith, nat_tests)

nat_other : (m n : ℕ) → n < m → (m == n) ≡ false
nat_other m n h = grind (arith, nat_tests)

nat_other_up : (m n : ℕ) → m < n → (m == n) ≡ false
nat_other_up m n h = grind (arith, nat_tests)

nat_swap : (m n : ℕ) → (m == n) ≡ (n == m)
nat_swap m n = grind (arith, nat_tests)

same_is : (m n : ℕ) → (m == n) ≡ true → m ≡ n
same_is m n h = grind (arith, nat_tests)

not_below_is : (m n : ℕ) → n ≤ m → nat_lt m n ≡ false
not_below_is m n h = grind (arith, nat_tests)

is_not_below : (m n : ℕ) → nat_lt m n ≡ false → n ≤ m
is_not_below m n h = grind (arith, nat_tests)

same_test : (a b c d : ℕ) → (a < b → c < d) → (c < d → a < b) → nat_lt a b ≡ nat_lt c d
same_test a b c d f g = grind (arith, nat_tests)

pub le_cases : (m n : ℕ) → m ≤ n → (m < n) ⊎ (m ≡ n)
le_cases m n h = grind (arith)

-- ---- the order of positions

nat_less : (m n : ℕ) → nat_cmp m n ≡ Less → m < n
nat_less m n h = grind (arith, nat_tests)

nat_equal : (m n : ℕ) → nat_cmp m n ≡ Equal → m ≡ n
nat_equal m n h = grind (arith, nat_tests)

not_less : (r : Ordering) → (r ≡ Less → ⊥) → is_lt r ≡ false
not_less Less h = absurd (h refl)
not_less Equal h = refl
not_less Greater h = refl

start_step : (r b : Ordering) (m n : ℕ) → nat_cmp m n ≡ r → ordering_then r b ≡ Less → m ≤ n
start_step Less b m n e h = let l = nat_less m n e in omega arith
start_step Equal b m n e h = let l = nat_equal m n e in omega arith
start_step Greater b m n e h = absurd (false≢true (ap is_lt h))

-- what comes after a position starts no earlier
pub start_up : (a p : Position) → position_cmp a p ≡ Less → a.start ≤ p.start
start_up a p h = start_step (nat_cmp a.start p.start) (slice_cmp pick_cmp a.picks p.picks) a.start p.start refl h

sorted_behind : (xs : List Position) (y : Position) (zs : List Position) → IsStrictlySortedBy position_cmp (xs ++ y ∷ zs) → (z : Position) → IsIn z zs → position_cmp y z ≡ Less
unfolding IsStrictlySortedBy
sorted_behind [] y zs s z i = all_at (λ v. position_cmp y v ≡ Less) zs z s.0 i
sorted_behind (x ∷ xs) y zs s z i = sorted_behind xs y zs s.1 z i

sorted_before : (xs : List Position) (y : Position) (zs : List Position) → IsStrictlySortedBy position_cmp (xs ++ y ∷ zs) → (x : Position) → IsIn x xs → position_cmp x y ≡ Less
unfolding IsStrictlySortedBy
sorted_before [] y zs s x i = absurd i
sorted_before (v ∷ xs) y zs s x (inl e) = subst (λ u. position_cmp u y ≡ Less) (sym e) (all_at (λ u. position_cmp v u ≡ Less) (xs ++ y ∷ zs) y s.0 (in_right y xs (y ∷ zs) (inl refl)))
sorted_before (v ∷ xs) y zs s x (inr i) = sorted_before xs y zs s.1 x i

sorted_tail : (xs ys : List Position) → IsStrictlySortedBy position_cmp (xs ++ ys) → IsStrictlySortedBy position_cmp ys
unfolding IsStrictlySortedBy
sorted_tail [] ys s = s
sorted_tail (x ∷ xs) ys s = sorted_tail xs ys s.1

-- ---- counts

-- a row, or none
abbrev pub one_row : ℕ → Position → ℕ
one_row leaves p = if is_full leaves p then 1 else 0

-- the rows of a start t that were shown, when c of s were and none of a later start
abbrev pub counted : ℕ → ℕ → ℕ → ℕ
counted s c t = if t == s then c else 0

-- the start of a position, and how many rows of it were shown
abbrev pub start_of : Option Position → ℕ
start_of None = 0
start_of (Some a) = a.start

abbrev pub count_of : Option Position → ℕ → ℕ
count_of None shown = 0
count_of (Some a) shown = shown

-- the positions that are due, where c rows of the start s were shown
abbrev pub due_from : ℕ → ℕ → ℕ → ℕ → List Position → List Position
due_from leaves per s c [] = []
due_from leaves per s c (p ∷ ps) =
    cond (nat_lt (counted s c p.start) per) (p ∷ due_from leaves per p.start (counted s c p.start + one_row leaves p) ps) (due_from leaves per p.start (counted s c p.start) ps)

pub counted_same : (s c : ℕ) → counted s c s ≡ c
counted_same s c = ap (λ b. cond b c 0) (nat_same s)

pub counted_later : (s c t : ℕ) → s < t → counted s c t ≡ 0
counted_later s c t h = ap (λ b. cond b c 0) (nat_other t s h)

-- ---- the definition, one after the other

module _ (leaves : ℕ) where
  -- rows of a start, among positions
  abbrev of_start : ℕ → Position → Bool
  of_start t q = is_full leaves q && (q.start == t)

  abbrev pub full_at : ℕ → List Position → ℕ
  full_at t ps = length (filter (of_start t) ps)

  -- the full positions of the start of p that come before it
  abbrev ahead : Position → Position → Bool
  ahead p q = is_full leaves q && ((q.start == p.start) && precedes q p)

  -- rows of which a test holds are counted among positions
  among_step : (f : Found → Bool) (q : Position) (fs : List Found) (gs : List Position) (b c : Bool) → f (found_of q) ≡ c → length fs ≡ length gs → length (cond b (cond c (found_of q ∷ fs) fs) fs) ≡ length (cond (b && c) (q ∷ gs) gs)
  among_step f q fs gs true true e h = ap suc h
  among_step f q fs gs true false e h = h
  among_step f q fs gs false c e h = h

  move_filter : (f : Found → Bool) (q : Position) (ps : List Position) (b : Bool) → filter f (map found_of (cond b (q ∷ ps) ps)) ≡ cond b (cond (f (found_of q)) (found_of q ∷ filter f (map found_of ps)) (filter f (map found_of ps))) (filter f (map found_of ps))
  move_filter f q ps true = refl
  move_filter f q ps false = refl

  filter_among : (f : Found → Bool) (ps : List Position) → length (filter f (rows_among leaves ps)) ≡ length (filter (λ q. is_full leaves q && f (found_of q)) ps)
  filter_among f [] = refl
  filter_among f (q ∷ ps) =
      ap length (move_filter f q (filter (is_full leaves) ps) (is_full leaves q))
      ∙ among_step f q (filter f (rows_among leaves ps)) (filter (λ q. is_full leaves q && f (found_of q)) ps) (is_full leaves q) (f (found_of q)) refl (filter_among f ps)

  pub rows_at_is : (t : ℕ) (ps : List Position) → rows_at (rows_among leaves ps) t ≡ full_at t ps
  rows_at_is t ps = filter_among (λ f. f.start == t) ps

  ahead_is : (ps : List Position) (p : Position) → rows_before (rows_among leaves ps) (found_of p) ≡ length (filter (ahead p) ps)
  ahead_is ps p = filter_among (λ e. (e.start == p.start) && precedes (record { start = e.start; picks = e.picks }) p) ps

  and-true : (b : Bool) → (b && true) ≡ b
  and-true true = refl
  and-true false = refl

  and-false : (b c : Bool) → (b && (c && false)) ≡ false
  and-false true true = refl
  and-false true false = refl
  and-false false c = refl

  same_filter : (f g : Position → Bool) (xs : List Position) → ((x : Position) → IsIn x xs → f x ≡ g x) → filter f xs ≡ filter g xs
  same_filter f g [] h = refl
  same_filter f g (x ∷ xs) h = ap (λ b. cond b (x ∷ filter f xs) (filter f xs)) (h x (inl refl)) ∙ ap (λ l. cond (g x) (x ∷ l) l) (same_filter f g xs (λ y i. h y (inr i)))

  -- in a sorted list, the rows of its start before a position are those that stand before it
  before_is : (before behind : List Position) (p : Position) → IsStrictlySortedBy position_cmp (before ++ p ∷ behind) → length (filter (ahead p) (before ++ p ∷ behind)) ≡ full_at p.start before
  before_is before behind p sorted =
      ap length (filter-append (ahead p) before (p ∷ behind)) ∙ length-append (filter (ahead p) before) (filter (ahead p) (p ∷ behind))
      ∙ ap (λ n. n + length (filter (ahead p) (p ∷ behind))) (ap length (same_filter (ahead p) (of_start p.start) before all_before)) ∙ ap (λ l. full_at p.start before + length l) (none_pass (ahead p) (p ∷ behind) none_behind) ∙ by (full_at p.start before)
    where
      by : (n : ℕ) → n + 0 ≡ n
      by n = omega arith

      all_before : (q : Position) → IsIn q before → ahead p q ≡ of_start p.start q
      all_before q i = ap (λ b. is_full leaves q && ((q.start == p.start) && b)) (ap is_lt (sorted_before before p behind sorted q i)) ∙ ap (λ b. is_full leaves q && b) (and-true (q.start == p.start))

      none_behind : (q : Position) → IsIn q (p ∷ behind) → ahead p q ≡ false
      none_behind q (inl e) = ap (λ b. is_full leaves q && ((q.start == p.start) && b)) (not_less (position_cmp q p) (λ l. not_itself position_cmp position_total p (subst (λ u. position_cmp u p ≡ Less) e l))) ∙ and-false (is_full leaves q) (q.start == p.start)
      none_behind q (inr i) = ap (λ b. is_full leaves q && ((q.start == p.start) && b)) (not_less (position_cmp q p) (λ l. not_both position_cmp position_total p q (sorted_behind before p behind sorted q i) l)) ∙ and-false (is_full leaves q) (q.start == p.start)

  pub full_at-push : (t : ℕ) (ps : List Position) (p : Position) → full_at t (ps ++ p ∷ []) ≡ full_at t ps + cond (p.start == t) (one_row leaves p) 0
  full_at-push t ps p = ap length (filter-append (of_start t) ps (p ∷ [])) ∙ length-append (filter (of_start t) ps) (filter (of_start t) (p ∷ [])) ∙ ap (λ n. full_at t ps + n) (by (is_full leaves p) (p.start == t))
    where
      by : (b d : Bool) → length (cond (b && d) (p ∷ []) []) ≡ cond d (cond b 1 0) 0
      by true true = refl
      by true false = refl
      by false true = refl
      by false false = refl

  full_at-cons : (t : ℕ) (p : Position) (ps : List Position) → full_at t (p ∷ ps) ≡ cond (p.start == t) (one_row leaves p) 0 + full_at t ps
  full_at-cons t p ps = by (is_full leaves p) (p.start == t)
    where
      by : (b d : Bool) → length (cond (b && d) (p ∷ filter (of_start t) ps) (filter (of_start t) ps)) ≡ cond d (cond b 1 0) 0 + full_at t ps
      by true true = omega arith
      by true false = omega arith
      by false true = omega arith
      by false false = omega arith

  start_not_before : (before behind : List Position) (p q : Position) → IsStrictlySortedBy position_cmp (before ++ p ∷ behind) → IsIn q behind → p.start ≤ q.start
  start_not_before before behind p q sorted i = start_up p q (sorted_behind before p behind sorted q i)

  module _ (per : ℕ) where
    -- of two counts that are both enough, either serves
    pub due_enough : (s c d : ℕ) (ps : List Position) → per ≤ c → per ≤ d → due_from leaves per s c ps ≡ due_from leaves per s d ps
    due_enough s c d [] g h = refl
    due_enough s c d (p ∷ ps) g h = by (p.start == s) (due_enough p.start c d ps g h)
      where
        by : (b : Bool) → due_from leaves per p.start c ps ≡ due_from leaves per p.start d ps
            → cond (nat_lt (cond b c 0) per) (p ∷ due_from leaves per p.start (cond b c 0 + one_row leaves p) ps) (due_from leaves per p.start (cond b c 0) ps)
            ≡ cond (nat_lt (cond b d 0) per) (p ∷ due_from leaves per p.start (cond b d 0 + one_row leaves p) ps) (due_from leaves per p.start (cond b d 0) ps)
        by true e =
            ap (λ x. cond x (p ∷ due_from leaves per p.start (c + one_row leaves p) ps) (due_from leaves per p.start c ps)) (not_below_is c per g) ∙ e
            ∙ sym (ap (λ x. cond x (p ∷ due_from leaves per p.start (d + one_row leaves p) ps) (due_from leaves per p.start d ps)) (not_below_is d per h))
        by false e = refl

    -- more than 500 count as 500
    pub due_capped : (s c : ℕ) (ps : List Position) → per ≤ page_limit → due_from leaves per s (min c page_limit) ps ≡ due_from leaves per s c ps
    due_capped s c ps h = elim (by c) [
      | inl e ↦ ap (λ n. due_from leaves per s n ps) e
      | inr l ↦ due_enough s (min c page_limit) c ps (omega (arith, l.0, h)) (omega (arith, l.1, h))
    ]
      where
        by : (n : ℕ) → (min n page_limit ≡ n) ⊎ ((page_limit ≤ min n page_limit) × (page_limit ≤ n))
        by n = grind (arith, nat_tests)

    module _ (after : Option Position) (shown : ℕ) where
      -- c rows of the start s were shown, and none of a later start
      abbrev pub HasShown : List Position → ℕ → ℕ → Type 0
      HasShown before s c = (t : ℕ) → s ≤ t → full_at t before + shown_before after shown t ≡ counted s c t

      pub has_shown-push : (before : List Position) (s c : ℕ) (p : Position) → s ≤ p.start → HasShown before s c → HasShown (before ++ p ∷ []) p.start (counted s c p.start + one_row leaves p)
      has_shown-push before s c p h shows t g = elim (le_cases p.start t g) [
        | inl l ↦
            let a = full_at-push t before p in
            let z = ap (λ b. cond b (one_row leaves p) 0) (nat_other_up p.start t l) in
            let d = shows t (omega arith) in
            let e = counted_later s c t (omega arith) in
            let f = counted_later p.start (counted s c p.start + one_row leaves p) t l in
            omega (arith, a, z, d, e, f)
        | inr e ↦ subst (λ t. full_at t (before ++ p ∷ []) + shown_before after shown t ≡ counted p.start (counted s c p.start + one_row leaves p) t) e (
            let a = full_at-push p.start before p in
            let z = ap (λ b. cond b (one_row leaves p) 0) (nat_same p.start) in
            let d = shows p.start h in
            let f = counted_same p.start (counted s c p.start + one_row leaves p) in
            omega (arith, a, z, d, f))
      ]

      pub due_by : (before qs : List Position) (s c : ℕ) → IsStrictlySortedBy position_cmp (before ++ qs) → ((q : Position) → IsIn q qs → s ≤ q.start) → HasShown before s c
          → filter (λ p. nat_lt (rows_before (rows_among leaves (before ++ qs)) (found_of p)) (per - shown_before after shown p.start)) qs ≡ due_from leaves per s c qs
      due_by before [] s c sorted later shows = refl
      due_by before (p ∷ qs) s c sorted later shows =
          ap (λ b. cond b (p ∷ filter test qs) (filter test qs)) here ∙ by (tail (λ n up later shows. due_by (before ++ p ∷ []) qs p.start n up later shows)) (nat_lt (counted s c p.start) per) refl
        where
          test : Position → Bool
          test q = nat_lt (rows_before (rows_among leaves (before ++ p ∷ qs)) (found_of q)) (per - shown_before after shown q.start)

          whole : (before ++ p ∷ []) ++ qs ≡ before ++ p ∷ qs
          whole = append_assoc before (p ∷ []) qs

          from : s ≤ p.start
          from = later p (inl refl)

          here : nat_lt (rows_before (rows_among leaves (before ++ p ∷ qs)) (found_of p)) (per - shown_before after shown p.start) ≡ nat_lt (counted s c p.start) per
          here =
              let a = ahead_is (before ++ p ∷ qs) p ∙ before_is before qs p sorted in
              let d = shows p.start from in
              same_test (rows_before (rows_among leaves (before ++ p ∷ qs)) (found_of p)) (per - shown_before after shown p.start) (counted s c p.start) per (λ h. omega (arith, a, d)) (λ h. omega (arith, a, d))

          tail : ((n : ℕ) → IsStrictlySortedBy position_cmp ((before ++ p ∷ []) ++ qs) → ((q : Position) → IsIn q qs → p.start ≤ q.start) → HasShown (before ++ p ∷ []) p.start n
              → filter (λ q. nat_lt (rows_before (rows_among leaves ((before ++ p ∷ []) ++ qs)) (found_of q)) (per - shown_before after shown q.start)) qs ≡ due_from leaves per p.start n qs)
              → filter test qs ≡ due_from leaves per p.start (counted s c p.start + one_row leaves p) qs
          tail again =
              subst (λ l. filter (λ q. nat_lt (rows_before (rows_among leaves l) (found_of q)) (per - shown_before after shown q.start)) qs ≡ due_from leaves per p.start (counted s c p.start + one_row leaves p) qs) whole
              (again (counted s c p.start + one_row leaves p) (subst (IsStrictlySortedBy position_cmp) (sym whole) sorted) (λ q i. start_not_before before qs p q sorted i) (has_shown-push before s c p from shows))

          by : filter test qs ≡ due_from leaves per p.start (counted s c p.start + one_row leaves p) qs → (b : Bool) → nat_lt (counted s c p.start) per ≡ b → cond b (p ∷ filter test qs) (filter test qs)
              ≡ cond b (p ∷ due_from leaves per p.start (counted s c p.start + one_row leaves p) qs) (due_from leaves per p.start (counted s c p.start) qs)
          by tail true e = ap (λ l. p ∷ l) tail
          by tail false e = let enough = is_not_below (counted s c p.start) per e in tail ∙ due_enough p.start (counted s c p.start + one_row leaves p) (counted s c p.start) qs (omega (arith, enough)) enough

  -- ---- behind the last that was passed

  abbrev first_or : Position → List Position → Position
  first_or d [] = d
  first_or d (x ∷ xs) = x

  abbrev rest_of : List Position → List Position
  rest_of [] = []
  rest_of (x ∷ xs) = xs

  nothing_last : (front rest : List Position) (n : Position) → [] ≡ (front ++ n ∷ []) ++ rest → ⊥
  nothing_last [] rest n e = let l = ap length e in omega arith
  nothing_last (f ∷ front) rest n e = let l = ap length e in omega arith

  -- the positions of a list behind one of it, and what is due of them when so many of that start were shown
  pub record Behind (per : ℕ) (s c : ℕ) (n : Position) (passed rest qs : List Position) : Type 0 where
    pub before : List Position
    pub behind : List Position
    pub whole : qs ≡ before ++ n ∷ behind
    pub rest_is : due_from leaves per n.start (full_at n.start passed + counted s c n.start) behind ≡ rest

  module _ (per : ℕ) where
    -- where p was passed, the count goes on with it
    count_passed : (s c t : ℕ) (p : Position) (ps : List Position) → s ≤ p.start → p.start ≤ t
        → full_at t ps + counted p.start (counted s c p.start + one_row leaves p) t ≡ full_at t (p ∷ ps) + counted s c t
    count_passed s c t p ps h g = elim (le_cases p.start t g) [
      | inl l ↦
          let a = full_at-cons t p ps in
          let z = ap (λ b. cond b (one_row leaves p) 0) (nat_other_up p.start t l) in
          let e = counted_later s c t (omega arith) in
          let f = counted_later p.start (counted s c p.start + one_row leaves p) t l in
          omega (arith, a, z, e, f)
      | inr e ↦ subst (λ t. full_at t ps + counted p.start (counted s c p.start + one_row leaves p) t ≡ full_at t (p ∷ ps) + counted s c t) e (
          let a = full_at-cons p.start p ps in
          let z = ap (λ b. cond b (one_row leaves p) 0) (nat_same p.start) in
          let f = counted_same p.start (counted s c p.start + one_row leaves p) in
          omega (arith, a, z, f))
    ]

    -- where p was left, the count stays
    count_left : (s c t : ℕ) (p : Position) (ps : List Position) → s ≤ p.start → p.start ≤ t → full_at t ps + counted p.start (counted s c p.start) t ≡ full_at t ps + counted s c t
    count_left s c t p ps h g = elim (le_cases p.start t g) [
      | inl l ↦
          let e = counted_later s c t (omega arith) in
          let f = counted_later p.start (counted s c p.start) t l in
          omega (arith, e, f)
      | inr e ↦ subst (λ t. full_at t ps + counted p.start (counted s c p.start) t ≡ full_at t ps + counted s c t) e (
          let f = counted_same p.start (counted s c p.start) in
          omega (arith, f))
    ]

    pub behind_last : (s c : ℕ) (front rest qs : List Position) (n : Position) → IsStrictlySortedBy position_cmp qs → ((q : Position) → IsIn q qs → s ≤ q.start)
        → due_from leaves per s c qs ≡ (front ++ n ∷ []) ++ rest → Behind per s c n (front ++ n ∷ []) rest qs
    unfolding IsStrictlySortedBy
    behind_last s c front rest [] n sorted later e = absurd (nothing_last front rest n e)
    behind_last s c front rest (p ∷ qs) n sorted later e =
        by (nat_lt (counted s c p.start) per) e (λ gs f. behind_last p.start (counted s c p.start + one_row leaves p) gs rest qs n sorted.1 starts f) (λ f. behind_last p.start (counted s c p.start) front rest qs n sorted.1 starts f)
      where
        starts : (q : Position) → IsIn q qs → p.start ≤ q.start
        starts q i = start_up p q (all_at (λ z. position_cmp p z ≡ Less) qs q sorted.0 i)

        there : (passed : List Position) (d : ℕ) → Behind per p.start d n passed rest qs → p.start ≤ n.start
        there passed d h = starts n (subst (IsIn n) (sym h.whole) (in_right n h.before (n ∷ h.behind) (inl refl)))

        left : Behind per p.start (counted s c p.start) n (front ++ n ∷ []) rest qs → Behind per s c n (front ++ n ∷ []) rest (p ∷ qs)
        left h = record {
          before = p ∷ h.before;
          behind = h.behind;
          whole = ap (λ l. p ∷ l) h.whole;
          rest_is = ap (λ k. due_from leaves per n.start k h.behind) (sym (count_left s c n.start p (front ++ n ∷ []) (later p (inl refl)) (there (front ++ n ∷ []) (counted s c p.start) h))) ∙ h.rest_is;
        }

        passed_on : (f : Position) (fs : List Position) → p ≡ f → Behind per p.start (counted s c p.start + one_row leaves p) n (fs ++ n ∷ []) rest qs → Behind per s c n (f ∷ fs ++ n ∷ []) rest (p ∷ qs)
        passed_on f fs same h = subst (λ u. Behind per s c n (u ∷ fs ++ n ∷ []) rest (p ∷ qs)) same (record {
          before = p ∷ h.before;
          behind = h.behind;
          whole = ap (λ l. p ∷ l) h.whole;
          rest_is = ap (λ k. due_from leaves per n.start k h.behind) (sym (count_passed s c n.start p (fs ++ n ∷ []) (later p (inl refl)) (there (fs ++ n ∷ []) (counted s c p.start + one_row leaves p) h))) ∙ h.rest_is;
        })

        count_here : (t : ℕ) → full_at t (p ∷ []) ≡ cond (p.start == t) (one_row leaves p) 0 + full_at t [] → cond (p.start == t) (one_row leaves p) 0 ≡ one_row leaves p
            → full_at t (p ∷ []) + counted s c p.start ≡ counted s c p.start + one_row leaves p
        count_here t a z = omega (arith, a, z)

        here : p ≡ n → due_from leaves per p.start (counted s c p.start + one_row leaves p) qs ≡ rest → Behind per s c n (n ∷ []) rest (p ∷ qs)
        here same r = subst (λ u. Behind per s c u (u ∷ []) rest (p ∷ qs)) same (record {
          before = [];
          behind = qs;
          whole = refl;
          rest_is = ap (λ k. due_from leaves per p.start k qs) (count_here p.start (full_at-cons p.start p []) (ap (λ b. cond b (one_row leaves p) 0) (nat_same p.start))) ∙ r;
        })

        front_by : (fs : List Position) → p ∷ due_from leaves per p.start (counted s c p.start + one_row leaves p) qs ≡ (fs ++ n ∷ []) ++ rest
            → ((gs : List Position) → due_from leaves per p.start (counted s c p.start + one_row leaves p) qs ≡ (gs ++ n ∷ []) ++ rest → Behind per p.start (counted s c p.start + one_row leaves p) n (gs ++ n ∷ []) rest qs)
            → Behind per s c n (fs ++ n ∷ []) rest (p ∷ qs)
        front_by [] e again = here (ap (first_or p) e) (ap rest_of e)
        front_by (f ∷ fs) e again = passed_on f fs (ap (first_or p) e) (again fs (ap rest_of e))

        by : (b : Bool)
            → cond b (p ∷ due_from leaves per p.start (counted s c p.start + one_row leaves p) qs) (due_from leaves per p.start (counted s c p.start) qs) ≡ (front ++ n ∷ []) ++ rest
            → ((gs : List Position) → due_from leaves per p.start (counted s c p.start + one_row leaves p) qs ≡ (gs ++ n ∷ []) ++ rest → Behind per p.start (counted s c p.start + one_row leaves p) n (gs ++ n ∷ []) rest qs)
            → (due_from leaves per p.start (counted s c p.start) qs ≡ (front ++ n ∷ []) ++ rest → Behind per p.start (counted s c p.start) n (front ++ n ∷ []) rest qs)
            → Behind per s c n (front ++ n ∷ []) rest (p ∷ qs)
        by true e passed skipped = front_by front e passed
        by false e passed skipped = left (skipped e)

    none_shown : (b : Bool) → ◌≡◌ {A = ℕ} 0 (cond b 0 0)
    none_shown true = refl
    none_shown false = refl

    has_shown_first : (after : Option Position) (shown : ℕ) → HasShown per after shown [] (start_of after) (count_of after shown)
    has_shown_first None shown = λ t g. let e = none_shown (t == 0) in omega (arith, e)
    has_shown_first (Some a) shown = λ t g. let e = ap (λ b. cond b shown 0) (nat_swap a.start t) in omega (arith, e)

    -- what is due behind the last position that was passed is what was not passed
    pub due_behind : (point : ResumePoint) (front rest qs : List Position) (n : Position) → per ≤ page_limit → IsStrictlySortedBy position_cmp qs
        → ((q : Position) → IsIn q qs → start_of point.after ≤ q.start) → due_of leaves (Some per) point qs ≡ (front ++ n ∷ []) ++ rest
        → (before : List Position) × (behind : List Position) × (qs ≡ before ++ n ∷ behind)
        × (due_of leaves (Some per) (record { after = Some n; shown = min (rows_at (rows_among leaves (front ++ n ∷ [])) n.start + shown_before point.after point.shown n.start) page_limit }) behind ≡ rest)
    due_behind point front rest qs n small sorted later e =
        let first = has_shown_first point.after point.shown in
        let h = behind_last (start_of point.after) (count_of point.after point.shown) front rest qs n sorted later
        (sym (due_by per point.after point.shown [] qs (start_of point.after) (count_of point.after point.shown) sorted later first) ∙ e) in
        let there : IsIn n qs = subst (IsIn n) (sym h.whole) (in_right n h.before (n ∷ h.behind) (inl refl)) in
        let total = total_is (rows_at_is n.start (front ++ n ∷ [])) (first n.start (later n there)) in
        let whole_sorted = subst (IsStrictlySortedBy position_cmp) h.whole sorted in
        let shown = min (rows_at (rows_among leaves (front ++ n ∷ [])) n.start + shown_before point.after point.shown n.start) page_limit in (
          h.before,
          h.behind,
          h.whole,
          due_by per (Some n) shown [] h.behind n.start shown (sorted_tail (n ∷ []) h.behind (sorted_tail h.before (n ∷ h.behind) whole_sorted)) (λ q i. start_not_before h.before h.behind n q whole_sorted i) (has_shown_first (Some n) shown)
              ∙ due_capped per n.start (rows_at (rows_among leaves (front ++ n ∷ [])) n.start + shown_before point.after point.shown n.start) h.behind small
              ∙ ap (λ k. due_from leaves per n.start k h.behind) total ∙ h.rest_is,
        )
      where
        total_is : rows_at (rows_among leaves (front ++ n ∷ [])) n.start ≡ full_at n.start (front ++ n ∷ [])
            → full_at n.start [] + shown_before point.after point.shown n.start ≡ counted (start_of point.after) (count_of point.after point.shown) n.start
            → rows_at (rows_among leaves (front ++ n ∷ [])) n.start + shown_before point.after point.shown n.start ≡ full_at n.start (front ++ n ∷ []) + counted (start_of point.after) (count_of point.after point.shown) n.start
        total_is a b = omega (arith, a, b)
