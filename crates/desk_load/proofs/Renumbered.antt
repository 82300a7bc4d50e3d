-- Rows, lists and weights by numbers, of which one more or one less is there.
use Rattle.std.proofs.Common.{drop, ◌≡◌, ℕ, zero, suc, ◌<◌, ◌≤◌, Bool, true, false, cond, ◌||◌, ◌==◌, nat_lt, List, [], ◌∷◌, ◌++◌, map, length, get_or, None, inl, inr, refl, sym, ap, ◌∙◌, subst, arith}
use Rattle.std.proofs.lemmas.Bool.{false≢true}
use Rattle.std.proofs.lemmas.Bool.Decides.{nat_tests}
use Rattle.std.proofs.lemmas.List.{map-append}
use Rattle.std.specs.Prelude.{filter, find}
use Rattle.std.specs.Ordering.{nat_cmp}
use Rattle.std.specs.List.{list_any, insert, remove}
use Rattle.std.specs.List.Sorted.{IsStrictlySortedBy, IsPartitionPoint}
use Rattle.std.specs.declared.cmp.Ordering.TheVariants.{Less}
use Rattle.desk_base.specs.declared.rows.tables.Key.{Key}
use Rattle.desk_base.specs.declared.rows.tables.Table.TheVariants.{Resource as ResourceTable, Group as GroupTable}
use Rattle.desk_base.specs.declared.rows.bookings.BookingRow.{BookingRow}
use Rattle.desk_base.specs.rows.Keys.{id_key}
use Rattle.desk_base.specs.rows.Ranges.{owns}
use Rattle.desk_base.specs.changes.Changes.{is_below, rows_below, rows_above, with_one, without_one}
use Rattle.desk_base.proofs.lists.Members.{IsIn, all_at, in-append, in-filter, in_mapped, sorted-append, all_from, in_left, in_right, in_filtered}
use Rattle.desk_base.proofs.lists.Filtered.{all_pass, none_pass}
use Rattle.desk_base.proofs.lists.Cuts.{before_point}
use Rattle.desk_load.specs.declared.lists.BookingList.{BookingList}
use Rattle.desk_load.specs.Lists.{lists_of}
use Rattle.desk_load.proofs.Numbers.{filter_same}
use Rattle.desk_load.proofs.Following.{found_none}
use Rattle.desk_load.proofs.OneBooking.{then_lt, lt_is}

over_not : (m n : ℕ) → nat_lt m n ≡ true → nat_lt n m ≡ false
over_not m n e = grind (arith, nat_tests)

-- ---- numbers with one more

-- the numbers below one, it, and those above it
abbrev pub numbers_with : ℕ → List ℕ → List ℕ
numbers_with n ns = filter (λ k. nat_lt k n) ns ++ n ∷ filter (λ k. nat_lt n k) ns

pub map_filter : {A B : Type 0} (f : A → B) (p : B → Bool) (xs : List A) → map f (filter (λ x. p (f x)) xs) ≡ filter p (map f xs)
map_filter f p [] = refl
map_filter f p (x ∷ xs) = step (p (f x)) (map_filter f p xs)
  where
    step : (b : Bool) → map f (filter (λ y. p (f y)) xs) ≡ filter p (map f xs) → map f (cond b (x ∷ filter (λ y. p (f y)) xs) (filter (λ y. p (f y)) xs)) ≡ cond b (f x ∷ filter p (map f xs)) (filter p (map f xs))
    step true h = ap (λ l. f x ∷ l) h
    step false h = h

pub is_under : (a b : ℕ) → nat_cmp a b ≡ Less → nat_lt a b ≡ true
is_under a b e = grind (arith, nat_tests)

pub not_over : (a b : ℕ) → nat_cmp a b ≡ Less → nat_lt b a ≡ false
not_over a b e = grind (arith, nat_tests)

pub not_itself : (a : ℕ) → nat_lt a a ≡ false
not_itself a = grind (arith, nat_tests)

pub equal : (a b : ℕ) → (a == b) ≡ true → a ≡ b
equal a b e = grind (arith, nat_tests)

pub same : (a b : ℕ) → a ≡ b → (a == b) ≡ true
same a b e = grind (arith, nat_tests)

pub less_is : (a b : ℕ) → nat_lt a b ≡ true → nat_cmp a b ≡ Less
less_is a b e = grind (arith, nat_tests)

pub named_in : (n : ℕ) (ns : List ℕ) → list_any (λ k. k == n) ns ≡ true → IsIn n ns
named_in n [] e = absurd (false≢true e)
named_in n (k ∷ ks) e = step (k == n) refl e (named_in n ks)
  where
    step : (b : Bool) → (k == n) ≡ b → (b || list_any (λ j. j == n) ks) ≡ true → (list_any (λ j. j == n) ks ≡ true → IsIn n ks) → IsIn n (k ∷ ks)
    step true f g h = inl (sym (equal k n f))
    step false f g h = inr (h g)

-- a number that is there is there once
pub numbers_stay : (n : ℕ) (ns : List ℕ) → IsStrictlySortedBy nat_cmp ns → IsIn n ns → numbers_with n ns ≡ ns
unfolding IsStrictlySortedBy
numbers_stay n [] s i = absurd i
numbers_stay n (k ∷ ks) s (inl e) =
    let lower = ap (λ c. cond c (k ∷ filter (λ j. nat_lt j n) ks) (filter (λ j. nat_lt j n) ks)) (ap (λ m. nat_lt k m) e ∙ not_itself k) ∙ none_pass (λ j. nat_lt j n) ks (λ j l. ap (nat_lt j) e ∙ not_over k j (all_at (λ m. nat_cmp k m ≡ Less) ks j s.0 l)) in
    let upper = ap (λ c. cond c (k ∷ filter (λ j. nat_lt n j) ks) (filter (λ j. nat_lt n j) ks)) (ap (λ m. nat_lt m k) e ∙ not_itself k) ∙ all_pass (λ j. nat_lt n j) ks (λ j l. ap (λ m. nat_lt m j) e ∙ is_under k j (all_at (λ m. nat_cmp k m ≡ Less) ks j s.0 l)) in
    (λ i. lower i ++ n ∷ upper i) ∙ ap (λ m. m ∷ ks) e
numbers_stay n (k ∷ ks) s (inr i) =
    let under = all_at (λ m. nat_cmp k m ≡ Less) ks n s.0 i in
    let lower = ap (λ c. cond c (k ∷ filter (λ j. nat_lt j n) ks) (filter (λ j. nat_lt j n) ks)) (is_under k n under) in
    let upper = ap (λ c. cond c (k ∷ filter (λ j. nat_lt n j) ks) (filter (λ j. nat_lt n j) ks)) (not_over k n under) in
    (λ i. lower i ++ n ∷ upper i) ∙ ap (λ l. k ∷ l) (numbers_stay n ks s.1 i)

pub sorted_filter : (p : ℕ → Bool) (ns : List ℕ) → IsStrictlySortedBy nat_cmp ns → IsStrictlySortedBy nat_cmp (filter p ns)
unfolding IsStrictlySortedBy
sorted_filter p [] s = tt
sorted_filter p (k ∷ ks) s = step (p k) (sorted_filter p ks s.1)
  where
    step : (b : Bool) → IsStrictlySortedBy nat_cmp (filter p ks) → IsStrictlySortedBy nat_cmp (cond b (k ∷ filter p ks) (filter p ks))
    step false r = r
    step true r = (all_from (λ j. nat_cmp k j ≡ Less) (filter p ks) (λ j i. all_at (λ m. nat_cmp k m ≡ Less) ks j s.0 (in-filter p j ks i).0), r)

pub less_trans : (a b c : ℕ) → nat_lt a b ≡ true → nat_lt b c ≡ true → nat_cmp a c ≡ Less
less_trans a b c e f = grind (arith, nat_tests)

pub numbers_rise_with : (n : ℕ) (ns : List ℕ) → IsStrictlySortedBy nat_cmp ns → IsStrictlySortedBy nat_cmp (numbers_with n ns)
unfolding IsStrictlySortedBy
numbers_rise_with n ns s =
    let lower = filter (λ k. nat_lt k n) ns in
    let upper = filter (λ k. nat_lt n k) ns in
    sorted-append nat_cmp lower (n ∷ upper) (sorted_filter (λ k. nat_lt k n) ns s)
    (all_from (λ k. nat_cmp n k ≡ Less) upper (λ k i. less_is n k (in-filter (λ k. nat_lt n k) k ns i).1), sorted_filter (λ k. nat_lt n k) ns s)
    (λ x y i j. elim j [
      | inl e ↦ subst (λ m. nat_cmp x m ≡ Less) (sym e) (less_is x n (in-filter (λ k. nat_lt k n) x ns i).1)
      | inr k ↦ less_trans x n y (in-filter (λ k. nat_lt k n) x ns i).1 (in-filter (λ k. nat_lt n k) y ns k).1
    ])

-- none is lost
pub number_kept : (m n : ℕ) (ns : List ℕ) → list_any (λ k. k == m) ns ≡ true → list_any (λ k. k == m) (numbers_with n ns) ≡ true
number_kept m n ns e = named m (numbers_with n ns) (kept (nat_lt m n) refl (nat_lt n m) refl (named_in m ns e))
  where
    named : (m : ℕ) (ns : List ℕ) → IsIn m ns → list_any (λ k. k == m) ns ≡ true
    named m [] i = absurd i
    named m (k ∷ ks) (inl e) = ap (λ b. b || list_any (λ j. j == m) ks) (same k m (sym e))
    named m (k ∷ ks) (inr i) = step (k == m) (named m ks i)
      where
        step : (b : Bool) → list_any (λ j. j == m) ks ≡ true → (b || list_any (λ j. j == m) ks) ≡ true
        step true h = refl
        step false h = h

    neither : nat_lt m n ≡ false → nat_lt n m ≡ false → m ≡ n
    neither a b = grind (arith, nat_tests)

    kept : (b : Bool) → nat_lt m n ≡ b → (c : Bool) → nat_lt n m ≡ c → IsIn m ns → IsIn m (numbers_with n ns)
    kept true f c g i = in_left m (filter (λ k. nat_lt k n) ns) (n ∷ filter (λ k. nat_lt n k) ns) (in_filtered (λ k. nat_lt k n) m ns i f)
    kept false f true g i = in_right m (filter (λ k. nat_lt k n) ns) (n ∷ filter (λ k. nat_lt n k) ns) (inr (in_filtered (λ k. nat_lt n k) m ns i g))
    kept false f false g i = in_right m (filter (λ k. nat_lt k n) ns) (n ∷ filter (λ k. nat_lt n k) ns) (inl (neither f g))

-- ---- rows by their numbers

above_other : (a n : ℕ) → nat_lt a n ≡ false → (a == n) ≡ false → nat_lt n a ≡ true
above_other a n e f = grind (arith, nat_tests)

-- the rows from the point on, where none has the number
pub after_point : {A : Type 0} (f : A → ℕ) (n : ℕ) (xs : List A) (at : ℕ) → at ≤ length xs → IsPartitionPoint (λ y. nat_lt (f y) n ≡ true) (λ y. nat_lt (f y) n ≡ false) xs at → ((x : A) → IsIn x xs → (f x == n) ≡ false) → drop at xs ≡ filter (λ y. nat_lt n (f y)) xs
after_point f n [] zero l p o = refl
after_point f n [] (suc at) l p o = refl
after_point {A} f n (x ∷ xs) zero l p o =
    sym (all_pass (λ y. nat_lt n (f y)) (x ∷ xs) (λ y i. above_other (f y) n (each (x ∷ xs) (λ k d m. p.1 k d (omega arith) m) y i) (o y i)))
  where
    each : (ys : List A) → ((k : ℕ) (d : A) → k < length ys → nat_lt (f (get_or ys k d)) n ≡ false) → (y : A) → IsIn y ys → nat_lt (f y) n ≡ false
    each [] h y i = absurd i
    each (z ∷ zs) h y (inl e) = ap (λ w. nat_lt (f w) n) e ∙ h 0 z (omega arith)
    each (z ∷ zs) h y (inr i) = each zs (λ k d m. h (suc k) d (omega arith)) y i
after_point f n (x ∷ xs) (suc at) l p o =
    let e : nat_lt (f x) n ≡ true = p.0 0 x (omega arith) (omega arith) in
    after_point f n xs at (omega arith) ((λ k d a b. p.0 (suc k) d (omega arith) (omega arith)), (λ k d a b. p.1 (suc k) d (omega arith) (omega arith))) (λ y i. o y (inr i))
    ∙ sym (ap (λ b. cond b (x ∷ filter (λ y. nat_lt n (f y)) xs) (filter (λ y. nat_lt n (f y)) xs)) (over_not (f x) n e))

abbrev pub list_of : (BookingRow → ℕ) → List BookingRow → ℕ → BookingList
list_of f bs n = record { number = n; bookings = filter (owns f n) bs }

-- ---- numbers without one

-- the numbers without one
abbrev pub numbers_without : ℕ → List ℕ → List ℕ
numbers_without n ns = filter (λ k. nat_lt k n) ns ++ filter (λ k. nat_lt n k) ns

pub group_below : (m n : ℕ) → is_below (id_key GroupTable m) (id_key GroupTable n) ≡ nat_lt m n
group_below m n = then_lt (nat_cmp m n) ∙ lt_is m n

pub resource_below : (m n : ℕ) → is_below (id_key ResourceTable m) (id_key ResourceTable n) ≡ nat_lt m n
resource_below m n = then_lt (nat_cmp m n) ∙ lt_is m n

module _ {R : Type 0} (id : R → ℕ) (key : R → Key) (k : Key) (n : ℕ) (low : (y : R) → is_below (key y) k ≡ nat_lt (id y) n) (high : (y : R) → is_below k (key y) ≡ nat_lt n (id y)) where
  ids_below : (rows : List R) → map id (rows_below key k rows) ≡ filter (λ m. nat_lt m n) (map id rows)
  ids_below rows = ap (map id) (filter_same (λ y. is_below (key y) k) (λ y. nat_lt (id y) n) rows low) ∙ map_filter id (λ m. nat_lt m n) rows

  ids_above : (rows : List R) → map id (rows_above key k rows) ≡ filter (λ m. nat_lt n m) (map id rows)
  ids_above rows = ap (map id) (filter_same (λ y. is_below k (key y)) (λ y. nat_lt n (id y)) rows high) ∙ map_filter id (λ m. nat_lt n m) rows

  -- the numbers of rows without one
  pub ids_taken : (rows : List R) → map id (without_one key k rows) ≡ numbers_without n (map id rows)
  unfolding without_one
  ids_taken rows = map-append id (rows_below key k rows) (rows_above key k rows) ∙ (λ i. ids_below rows i ++ ids_above rows i)

-- and with one
pub ids_put : {R : Type 0} (id : R → ℕ) (key : R → Key) (x : R) → ((y : R) → is_below (key y) (key x) ≡ nat_lt (id y) (id x)) → ((y : R) → is_below (key x) (key y) ≡ nat_lt (id x) (id y)) → (rows : List R) → map id (with_one key x rows) ≡ numbers_with (id x) (map id rows)
unfolding with_one
ids_put id key x low high rows =
    let a = ids_below id key (key x) (id x) low high rows in
    let b = ids_above id key (key x) (id x) low high rows in
    map-append id (rows_below key (key x) rows) (x ∷ rows_above key (key x) rows) ∙ (λ i. a i ++ id x ∷ b i)

pub numbers_rise_without : (n : ℕ) (ns : List ℕ) → IsStrictlySortedBy nat_cmp ns → IsStrictlySortedBy nat_cmp (numbers_without n ns)
numbers_rise_without n ns s =
    sorted-append nat_cmp (filter (λ k. nat_lt k n) ns) (filter (λ k. nat_lt n k) ns) (sorted_filter (λ k. nat_lt k n) ns s) (sorted_filter (λ k. nat_lt n k) ns s)
    (λ x y i j. less_trans x n y (in-filter (λ k. nat_lt k n) x ns i).1 (in-filter (λ k. nat_lt n k) y ns j).1)

neither : (m n : ℕ) → nat_lt m n ≡ false → (m == n) ≡ false → nat_lt n m ≡ true
neither m n e f = grind (arith, nat_tests)

above_all : (n k j : ℕ) → nat_lt n k ≡ true → nat_cmp k j ≡ Less → nat_lt n j ≡ true
above_all n k j e f = grind (arith, nat_tests)

-- numbers without one that is not there
pub numbers_absent : (n : ℕ) (ns : List ℕ) → IsStrictlySortedBy nat_cmp ns → list_any (λ k. k == n) ns ≡ false → numbers_without n ns ≡ ns
unfolding IsStrictlySortedBy
numbers_absent n [] s e = refl
numbers_absent n (k ∷ ks) s e = by (k == n) refl e (λ g. numbers_absent n ks s.1 g) (nat_lt k n) refl
  where
    lower : List ℕ
    lower = filter (λ j. nat_lt j n) ks

    upper : List ℕ
    upper = filter (λ j. nat_lt n j) ks

    by : (a : Bool) → (k == n) ≡ a → (a || list_any (λ j. j == n) ks) ≡ false → (list_any (λ j. j == n) ks ≡ false → lower ++ upper ≡ ks) → (b : Bool) → nat_lt k n ≡ b → cond (nat_lt k n) (k ∷ lower) lower ++ cond (nat_lt n k) (k ∷ upper) upper ≡ k ∷ ks
    by true f g r b h = absurd (false≢true (sym g))
    by false f g r true h = let o = over_not k n h in (λ i. cond (h i) (k ∷ lower) lower ++ cond (o i) (k ∷ upper) upper) ∙ ap (λ l. k ∷ l) (r g)
    by false f g r false h =
        let o = neither k n h f in
        let over : (j : ℕ) → IsIn j ks → nat_lt n j ≡ true = λ j i. above_all n k j o (all_at (λ m. nat_cmp k m ≡ Less) ks j s.0 i) in
        let low : lower ≡ [] = none_pass (λ j. nat_lt j n) ks (λ j i. over_not n j (over j i)) in
        let high : upper ≡ ks = all_pass (λ j. nat_lt n j) ks over in
        (λ i. cond (h i) (k ∷ lower) lower ++ cond (o i) (k ∷ upper) upper) ∙ (λ i. low i ++ k ∷ high i)

-- ---- rows that rise by number, without the one at a place

pub removed_is : {A : Type 0} (f : A → ℕ) (n : ℕ) (xs : List A) (at : ℕ) (d : A) → at < length xs → IsStrictlySortedBy nat_cmp (map f xs) → f (get_or xs at d) ≡ n → remove xs at ≡ filter (λ x. nat_lt (f x) n) xs ++ filter (λ x. nat_lt n (f x)) xs
unfolding IsStrictlySortedBy
removed_is f n [] at d l s e = absurd (omega arith)
removed_is {A} f n (x ∷ xs) zero d l s e =
    let itself : (a b : ℕ) → a ≡ b → nat_lt a b ≡ false = λ a b g. ap (λ m. nat_lt m b) g ∙ not_itself b in
    let rest : (y : A) → IsIn y xs → nat_cmp n (f y) ≡ Less = λ y i. subst (λ m. nat_cmp m (f y) ≡ Less) e (all_at (λ k. nat_cmp (f x) k ≡ Less) (map f xs) (f y) s.0 (in_mapped f y xs i)) in
    let low : filter (λ y. nat_lt (f y) n) xs ≡ [] = none_pass (λ y. nat_lt (f y) n) xs (λ y i. not_over n (f y) (rest y i)) in
    let high : filter (λ y. nat_lt n (f y)) xs ≡ xs = all_pass (λ y. nat_lt n (f y)) xs (λ y i. is_under n (f y) (rest y i)) in
    let a = itself (f x) n e in
    let b = itself n (f x) (sym e) in
    sym ((λ i. cond (a i) (x ∷ filter (λ y. nat_lt (f y) n) xs) (filter (λ y. nat_lt (f y) n) xs) ++ cond (b i) (x ∷ filter (λ y. nat_lt n (f y)) xs) (filter (λ y. nat_lt n (f y)) xs)) ∙ (λ i. low i ++ high i))
removed_is {A} f n (x ∷ xs) (suc at) d l s e =
    let under : nat_cmp (f x) n ≡ Less = subst (λ m. nat_cmp (f x) m ≡ Less) e (all_at (λ k. nat_cmp (f x) k ≡ Less) (map f xs) (f (get_or xs at d)) s.0 (in_mapped f (get_or xs at d) xs (in_at xs at (omega arith)))) in
    let a = is_under (f x) n under in
    let b = not_over (f x) n under in
    ap (λ l. x ∷ l) (removed_is f n xs at d (omega arith) s.1 e)
    ∙ sym (λ i. cond (a i) (x ∷ filter (λ y. nat_lt (f y) n) xs) (filter (λ y. nat_lt (f y) n) xs) ++ cond (b i) (x ∷ filter (λ y. nat_lt n (f y)) xs) (filter (λ y. nat_lt n (f y)) xs))
  where
    in_at : (ys : List A) (at : ℕ) → at < length ys → IsIn (get_or ys at d) ys
    in_at [] at l = absurd (omega arith)
    in_at (y ∷ ys) zero l = inl refl
    in_at (y ∷ ys) (suc at) l = inr (in_at ys at (omega arith))

low_other : (a b : ℕ) → nat_lt a b ≡ true → (a == b) ≡ false
low_other a b g = grind (arith, nat_tests)

high_other : (a b : ℕ) → nat_lt b a ≡ true → (a == b) ≡ false
high_other a b g = grind (arith, nat_tests)

-- what is on either side of a number is of another
pub in-off : {A : Type 0} (f : A → ℕ) (n : ℕ) (xs : List A) (y : A) → IsIn y (filter (λ x. nat_lt (f x) n) xs ++ filter (λ x. nat_lt n (f x)) xs) → IsIn y xs × ((f y == n) ≡ false)
in-off f n xs y i = elim (in-append y (filter (λ x. nat_lt (f x) n) xs) (filter (λ x. nat_lt n (f x)) xs) i) [
  | inl j ↦ (let g = in-filter (λ x. nat_lt (f x) n) y xs j in (g.0, low_other (f y) n g.1))
  | inr j ↦ (let g = in-filter (λ x. nat_lt n (f x)) y xs j in (g.0, high_other (f y) n g.1))
]

pub off_numbers : {A : Type 0} (f : A → ℕ) (n : ℕ) (xs : List A) → map f (filter (λ x. nat_lt (f x) n) xs ++ filter (λ x. nat_lt n (f x)) xs) ≡ numbers_without n (map f xs)
off_numbers f n xs =
    let a = map_filter f (λ k. nat_lt k n) xs in
    let b = map_filter f (λ k. nat_lt n k) xs in
    map-append f (filter (λ x. nat_lt (f x) n) xs) (filter (λ x. nat_lt n (f x)) xs) ∙ (λ i. a i ++ b i)

pub with_numbers : {A : Type 0} (f : A → ℕ) (n : ℕ) (x : A) (xs : List A) → f x ≡ n → map f (filter (λ x. nat_lt (f x) n) xs ++ x ∷ filter (λ x. nat_lt n (f x)) xs) ≡ numbers_with n (map f xs)
with_numbers f n x xs e =
    let a = map_filter f (λ k. nat_lt k n) xs in
    let b = map_filter f (λ k. nat_lt n k) xs in
    map-append f (filter (λ x. nat_lt (f x) n) xs) (x ∷ filter (λ x. nat_lt n (f x)) xs) ∙ (λ i. a i ++ e i ∷ b i)

pub lists_off : (f : BookingRow → ℕ) (n : ℕ) (ns : List ℕ) (bs : List BookingRow) → filter (λ (l : BookingList). nat_lt l.number n) (lists_of f ns bs) ++ filter (λ (l : BookingList). nat_lt n l.number) (lists_of f ns bs) ≡ lists_of f (numbers_without n ns) bs
lists_off f n ns bs =
    let a = sym (map_filter (list_of f bs) (λ (l : BookingList). nat_lt l.number n) ns) in
    let b = sym (map_filter (list_of f bs) (λ (l : BookingList). nat_lt n l.number) ns) in
    (λ i. a i ++ b i) ∙ sym (map-append (list_of f bs) (filter (λ k. nat_lt k n) ns) (filter (λ k. nat_lt n k) ns))

pub lists_with : (f : BookingRow → ℕ) (n : ℕ) (ns : List ℕ) (bs : List BookingRow) → filter (owns f n) bs ≡ [] → filter (λ (l : BookingList). nat_lt l.number n) (lists_of f ns bs) ++ record { number = n; bookings = [] } ∷ filter (λ (l : BookingList). nat_lt n l.number) (lists_of f ns bs) ≡ lists_of f (numbers_with n ns) bs
lists_with f n ns bs none =
    let a = sym (map_filter (list_of f bs) (λ (l : BookingList). nat_lt l.number n) ns) in
    let b = sym (map_filter (list_of f bs) (λ (l : BookingList). nat_lt n l.number) ns) in
    (λ i. a i ++ record { number = n; bookings = sym none i } ∷ b i) ∙ sym (map-append (list_of f bs) (filter (λ k. nat_lt k n) ns) (n ∷ filter (λ k. nat_lt n k) ns))

-- the same of a place that holds the number, whatever stands for none
pub removed_off : {A : Type 0} (f : A → ℕ) (n : ℕ) (xs : List A) (at : ℕ) → at < length xs → IsStrictlySortedBy nat_cmp (map f xs) → ((d : A) → f (get_or xs at d) ≡ n) → remove xs at ≡ filter (λ x. nat_lt (f x) n) xs ++ filter (λ x. nat_lt n (f x)) xs
removed_off f n [] at l s e = absurd (omega arith)
removed_off f n (x ∷ xs) at l s e = removed_is f n (x ∷ xs) at x l s (e x)

-- the numbers, and the lists of numbers, without the one at a place
pub removed_numbers : {A : Type 0} (f : A → ℕ) (n : ℕ) (xs : List A) (at : ℕ) (d : A) → at < length xs → IsStrictlySortedBy nat_cmp (map f xs) → f (get_or xs at d) ≡ n → map f (remove xs at) ≡ numbers_without n (map f xs)
removed_numbers f n xs at d l s e = ap (map f) (removed_is f n xs at d l s e) ∙ off_numbers f n xs

pub lists_removed : (f : BookingRow → ℕ) (n : ℕ) (ns : List ℕ) (bs : List BookingRow) (lists : List BookingList) (at : ℕ) (d : BookingList) → lists ≡ lists_of f ns bs → IsStrictlySortedBy nat_cmp (map (λ (l : BookingList). l.number) lists) → at < length lists → (get_or lists at d).number ≡ n → remove lists at ≡ lists_of f (numbers_without n ns) bs
lists_removed f n ns bs lists at d e s l g =
    removed_is (λ (l : BookingList). l.number) n lists at d l s g
    ∙ (λ i. filter (λ (l : BookingList). nat_lt l.number n) (e i) ++ filter (λ (l : BookingList). nat_lt n l.number) (e i))
    ∙ lists_off f n ns bs

-- where none is found, each has another number
pub absent_number : {A : Type 0} (f : A → ℕ) (n : ℕ) (xs : List A) → find (owns f n) xs ≡ None → (y : A) → IsIn y xs → (f y == n) ≡ false
absent_number {A} f n xs e y i = by (f y == n) refl
  where
    by : (b : Bool) → (f y == n) ≡ b → b ≡ false
    by false g = refl
    by true g = absurd (found_none (owns f n) xs y e i g)

pub none_there : {A : Type 0} (xs : List A) → length xs ≡ 0 → xs ≡ []
none_there [] e = refl
none_there (x ∷ xs) e = absurd (omega (arith, e))

-- rows with one more at the point
pub inserted_is : {A : Type 0} (f : A → ℕ) (n : ℕ) (xs : List A) (at : ℕ) (x : A) → at ≤ length xs → IsPartitionPoint (λ y. nat_lt (f y) n ≡ true) (λ y. nat_lt (f y) n ≡ false) xs at → ((y : A) → IsIn y xs → (f y == n) ≡ false) → insert xs at x ≡ filter (λ y. nat_lt (f y) n) xs ++ x ∷ filter (λ y. nat_lt n (f y)) xs
inserted_is f n xs at x l p o =
    let a = before_point (λ y. nat_lt (f y) n) xs at l p in
    let b = after_point f n xs at l p o in
    λ i. a i ++ x ∷ b i

-- the lists of numbers with an empty one at the point
pub inserted_lists : (f : BookingRow → ℕ) (n : ℕ) (ns : List ℕ) (bs : List BookingRow) (lists : List BookingList) (at : ℕ) → lists ≡ lists_of f ns bs → at ≤ length lists → IsPartitionPoint (λ (l : BookingList). nat_lt l.number n ≡ true) (λ (l : BookingList). nat_lt l.number n ≡ false) lists at
    → ((l : BookingList) → IsIn l lists → (l.number == n) ≡ false) → filter (owns f n) bs ≡ [] → insert lists at (record { number = n; bookings = [] }) ≡ lists_of f (numbers_with n ns) bs
inserted_lists f n ns bs lists at e l p o none =
    inserted_is (λ (l : BookingList). l.number) n lists at (record { number = n; bookings = [] }) l p o
    ∙ (λ i. filter (λ (l : BookingList). nat_lt l.number n) (e i) ++ record { number = n; bookings = [] } ∷ filter (λ (l : BookingList). nat_lt n l.number) (e i))
    ∙ lists_with f n ns bs none
