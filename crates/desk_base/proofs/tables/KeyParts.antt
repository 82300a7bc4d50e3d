-- Rows in the order of their keys: what stands below and above a key, and what a search for a key finds.
use Rattle.std.proofs.Common.{◌≡◌, ℕ, zero, suc, ◌+◌, ◌<◌, ◌≤◌, Bool, true, false, cond, ◌||◌, List, [], ◌∷◌, ◌++◌, map, length, take, drop, get_or, set, Result, Ok, Err, IfOk, IfErr, inl, inr, refl, sym, ap, ◌∙◌, subst, arith, drop-cons}
use Rattle.std.specs.Prelude.{filter}
use Rattle.std.specs.List.{AllWithin, HoldsAt, list_any, insert, remove}
use Rattle.std.specs.List.Sorted.{IsStrictlySortedBy, IsSortedBy, IsNonDecreasingBy, IsPartitionPoint, IsSearchInRange, IsBinarySearchResult}
use Rattle.std.specs.Ordering.{is_lt, is_eq, ordering_reverse, ordering_index}
use Rattle.std.specs.declared.cmp.Ordering.TheVariants.{Less, Equal, Greater}
use Rattle.std.proofs.lemmas.Cmp.{tied_back, alike_right}
use Rattle.std.proofs.lemmas.List.{take-append-drop}
use Rattle.std.proofs.lemmas.List.Elements.{filter-append}
use Rattle.std.proofs.lemmas.List.Sorted.{searchable_from_sorted}
use Rattle.desk_base.specs.rows.Types.{Key, AnyRow}
use Rattle.desk_base.specs.rows.Keys.{key_cmp}
use Rattle.desk_base.specs.rows.Rows.{key_of}
use Rattle.desk_base.specs.asked.Refusing.{is_key}
use Rattle.desk_base.specs.changes.Changes.{is_below, rows_below, rows_above, with_one, without_one}
use Rattle.desk_base.specs.rows.Lookups.{keys_by, StandsAt, BelongsAt}
use Rattle.desk_base.proofs.lists.Members.{IsIn, all_at, in-append, in_right, in_mapped, in-map}
use Rattle.desk_base.proofs.lists.Tests.{list_any_from}
use Rattle.desk_base.proofs.tables.Sounds.{key_total}

-- ---- two keys

pub less_back : (j k : Key) → key_cmp j k ≡ Less → key_cmp k j ≡ Greater
less_back j k e = key_total.antisymm k j ∙ ap ordering_reverse e

pub greater_back : (j k : Key) → key_cmp j k ≡ Greater → key_cmp k j ≡ Less
greater_back j k e = key_total.antisymm k j ∙ ap ordering_reverse e

-- ---- filtered lists

pub filter_none : {A : Type 0} (p : A → Bool) (xs : List A) → ((x : A) → IsIn x xs → p x ≡ false) → filter p xs ≡ []
filter_none p [] h = refl
filter_none p (x ∷ xs) h = ap (λ b. cond b (x ∷ filter p xs) (filter p xs)) (h x (inl refl)) ∙ filter_none p xs (λ y i. h y (inr i))

pub filter_all : {A : Type 0} (p : A → Bool) (xs : List A) → ((x : A) → IsIn x xs → p x ≡ true) → filter p xs ≡ xs
filter_all p [] h = refl
filter_all p (x ∷ xs) h = ap (λ b. cond b (x ∷ filter p xs) (filter p xs)) (h x (inl refl)) ∙ ap (λ l. x ∷ l) (filter_all p xs (λ y i. h y (inr i)))

pub any_none : {A : Type 0} (p : A → Bool) (xs : List A) → ((x : A) → IsIn x xs → p x ≡ false) → list_any p xs ≡ false
any_none p [] h = refl
any_none p (x ∷ xs) h = elim_bool (p x) (list_any p xs) (h x (inl refl)) (any_none p xs (λ y i. h y (inr i)))
  where
    elim_bool : (a b : Bool) → a ≡ false → b ≡ false → (a || b) ≡ false
    elim_bool true b e f = e
    elim_bool false b e f = f

-- ---- parts of a list

pub take_all : {A : Type 0} (P : A → Type 0) (xs : List A) (n : ℕ) → n ≤ length xs → AllWithin P xs 0 n → (y : A) → IsIn y (take n xs) → P y
take_all P xs zero b h y i = absurd i
take_all P [] (suc n) b h y i = absurd i
take_all P (x ∷ xs) (suc n) b h y (inl e) = subst P (sym e) (h 0 x (omega arith) (omega arith))
take_all P (x ∷ xs) (suc n) b h y (inr i) = take_all P xs n (omega arith) (λ k d l m. h (suc k) d (omega arith) (omega arith)) y i

pub drop_all : {A : Type 0} (P : A → Type 0) (xs : List A) (n : ℕ) → AllWithin P xs n (length xs) → (y : A) → IsIn y (drop n xs) → P y
drop_all P [] zero h y i = absurd i
drop_all P [] (suc n) h y i = absurd i
drop_all P (x ∷ xs) zero h y (inl e) = subst P (sym e) (h 0 x (omega arith) (omega arith))
drop_all P (x ∷ xs) zero h y (inr i) = drop_all P xs zero (λ k d l m. h (suc k) d (omega arith) (omega arith)) y i
drop_all P (x ∷ xs) (suc n) h y i = drop_all P xs n (λ k d l m. h (suc k) d (omega arith) (omega arith)) y i

pub cut_at : {A : Type 0} (xs : List A) (n : ℕ) (d : A) → n < length xs → take n xs ++ get_or xs n d ∷ drop (suc n) xs ≡ xs
cut_at xs n d h = ap (λ l. take n xs ++ l) (sym (drop-cons xs n d h)) ∙ take-append-drop n xs

set_is : {A : Type 0} (xs : List A) (n : ℕ) (x : A) → n < length xs → set xs n x ≡ take n xs ++ x ∷ drop (suc n) xs
set_is [] n x h = absurd (omega arith)
set_is (y ∷ ys) zero x h = refl
set_is (y ∷ ys) (suc n) x h = ap (λ l. y ∷ l) (set_is ys n x (omega arith))

append_nil : {A : Type 0} (xs : List A) → xs ++ [] ≡ xs
append_nil [] = refl
append_nil (y ∷ ys) = ap (λ l. y ∷ l) (append_nil ys)

-- ---- rows whose keys rise

module _ {R : Type 0} (any : R → AnyRow) where
  pub below_key : (before : List R) (x : R) (after : List R) → IsStrictlySortedBy key_cmp (keys_by any (before ++ x ∷ after)) → (y : R) → IsIn y before → key_cmp (key_of (any y)) (key_of (any x)) ≡ Less
  unfolding IsStrictlySortedBy
  below_key [] x after s y i = absurd i
  below_key (z ∷ before) x after s y (inl e) =
      subst (λ w. key_cmp (key_of (any w)) (key_of (any x)) ≡ Less) (sym e) (all_at (λ w. key_cmp (key_of (any z)) w ≡ Less) (keys_by any (before ++ x ∷ after)) (key_of (any x)) s.0 (in_mapped key_of (any x) (map any (before ++ x ∷ after)) (in_mapped any x (before ++ x ∷ after) (in_right x before (x ∷ after) (inl refl)))))
  below_key (z ∷ before) x after s y (inr i) = below_key before x after s.1 y i

  pub above_key : (before : List R) (x : R) (after : List R) → IsStrictlySortedBy key_cmp (keys_by any (before ++ x ∷ after)) → (y : R) → IsIn y after → key_cmp (key_of (any x)) (key_of (any y)) ≡ Less
  unfolding IsStrictlySortedBy
  above_key [] x after s y i = all_at (λ w. key_cmp (key_of (any x)) w ≡ Less) (keys_by any after) (key_of (any y)) s.0 (in_mapped key_of (any y) (map any after) (in_mapped any y after i))
  above_key (z ∷ before) x after s y i = above_key before x after s.1 y i

  -- the parts around a row that has the key
  pub mid-below : (k : Key) (before : List R) (x : R) (after : List R) → ((y : R) → IsIn y before → key_cmp (key_of (any y)) k ≡ Less) → key_cmp (key_of (any x)) k ≡ Equal → ((y : R) → IsIn y after → key_cmp (key_of (any y)) k ≡ Greater) → rows_below (λ y. key_of (any y)) k (before ++ x ∷ after) ≡ before
  mid-below k before x after b e a =
      let p : R → Bool = λ y. is_below (key_of (any y)) k in
      filter-append p before (x ∷ after) ∙ ap (λ l. l ++ filter p (x ∷ after)) (filter_all p before (λ y i. ap is_lt (b y i)))
      ∙ ap (λ l. before ++ l) (filter_none p (x ∷ after) (λ y i. elim i [ inl f ↦ ap p f ∙ ap is_lt e | inr j ↦ ap is_lt (a y j) ])) ∙ append_nil before

  pub mid-above : (k : Key) (before : List R) (x : R) (after : List R) → ((y : R) → IsIn y before → key_cmp (key_of (any y)) k ≡ Less) → key_cmp (key_of (any x)) k ≡ Equal → ((y : R) → IsIn y after → key_cmp (key_of (any y)) k ≡ Greater) → rows_above (λ y. key_of (any y)) k (before ++ x ∷ after) ≡ after
  mid-above k before x after b e a =
      let p : R → Bool = λ y. is_below k (key_of (any y)) in
      filter-append p before (x ∷ after) ∙ ap (λ l. l ++ filter p (x ∷ after)) (filter_none p before (λ y i. ap is_lt (less_back (key_of (any y)) k (b y i))))
      ∙ ap (λ c. cond c (x ∷ filter p after) (filter p after)) (ap is_lt (tied_back key_total (key_of (any x)) k e))
      ∙ filter_all p after (λ y i. ap is_lt (greater_back (key_of (any y)) k (a y i)))

  -- the parts around a place where a row of the key belongs
  gap-below : (k : Key) (before after : List R) → ((y : R) → IsIn y before → key_cmp (key_of (any y)) k ≡ Less) → ((y : R) → IsIn y after → key_cmp (key_of (any y)) k ≡ Greater) → rows_below (λ y. key_of (any y)) k (before ++ after) ≡ before
  gap-below k before after b a =
      let p : R → Bool = λ y. is_below (key_of (any y)) k in
      filter-append p before after ∙ ap (λ l. l ++ filter p after) (filter_all p before (λ y i. ap is_lt (b y i)))
      ∙ ap (λ l. before ++ l) (filter_none p after (λ y i. ap is_lt (a y i))) ∙ append_nil before

  gap-above : (k : Key) (before after : List R) → ((y : R) → IsIn y before → key_cmp (key_of (any y)) k ≡ Less) → ((y : R) → IsIn y after → key_cmp (key_of (any y)) k ≡ Greater) → rows_above (λ y. key_of (any y)) k (before ++ after) ≡ after
  gap-above k before after b a =
      let p : R → Bool = λ y. is_below k (key_of (any y)) in
      filter-append p before after ∙ ap (λ l. l ++ filter p after) (filter_none p before (λ y i. ap is_lt (less_back (key_of (any y)) k (b y i))))
      ∙ filter_all p after (λ y i. ap is_lt (greater_back (key_of (any y)) k (a y i)))

  -- some row has the key, or none has
  is_there : (k : Key) (rows : List R) (x : R) → IsIn x rows → key_cmp (key_of (any x)) k ≡ Equal → list_any (is_key k) (keys_by any rows) ≡ true
  is_there k rows x i e = list_any_from (is_key k) (keys_by any rows) (key_of (any x)) (in_mapped key_of (any x) (map any rows) (in_mapped any x rows i)) (ap is_eq (tied_back key_total (key_of (any x)) k e))

  is_absent : (k : Key) (rows : List R) → ((y : R) → IsIn y rows → is_eq (key_cmp k (key_of (any y))) ≡ false) → list_any (is_key k) (keys_by any rows) ≡ false
  is_absent k rows h = any_none (is_key k) (keys_by any rows) (λ j i.
      let a = in-map key_of j (map any rows) i in
      let b = in-map any a.0 rows a.1 in
      ap (is_key k) (a.2 ∙ ap key_of b.2) ∙ h b.0 b.1)

  sorted_rows : (rows : List R) → IsStrictlySortedBy key_cmp (keys_by any rows) → IsSortedBy (λ a b. is_lt (key_cmp (key_of (any a)) (key_of (any b)))) rows
  unfolding IsStrictlySortedBy
  sorted_rows [] s k d l m = absurd (omega arith)
  sorted_rows (x ∷ []) s k d l m = absurd (omega arith)
  sorted_rows (x ∷ y ∷ ys) s zero d l m = ap is_lt (less_back (key_of (any x)) (key_of (any y)) s.0.0)
  sorted_rows (x ∷ y ∷ ys) s (suc k) d l m =
      let e : suc k + 1 ≡ suc (k + 1) = omega arith in
      subst (λ n. is_lt (key_cmp (key_of (any (get_or (x ∷ y ∷ ys) n d))) (key_of (any (get_or (y ∷ ys) k d)))) ≡ false) (sym e) (sorted_rows (y ∷ ys) s.1 k d (omega arith) (omega arith))

  -- ---- what a search finds

  pub stands : (k : Key) (rows : List R) (at : ℕ) → IsStrictlySortedBy key_cmp (keys_by any rows) → at < length rows → HoldsAt (λ y. key_cmp (key_of (any y)) k ≡ Equal) rows at → StandsAt any k rows at
  stands k [] at s b h = absurd (omega arith)
  stands k (r ∷ rs) at s b h =
      let rows : List R = r ∷ rs in
      let before : List R = take at rows in
      let x : R = get_or rows at r in
      let after : List R = drop (suc at) rows in
      let cut : before ++ x ∷ after ≡ rows = cut_at rows at r b in
      let rise : IsStrictlySortedBy key_cmp (keys_by any (before ++ x ∷ after)) = subst (λ l. IsStrictlySortedBy key_cmp (keys_by any l)) (sym cut) s in
      let e : key_cmp (key_of (any x)) k ≡ Equal = h r in
      let b' : ((y : R) → IsIn y before → key_cmp (key_of (any y)) k ≡ Less) = λ y i. sym (alike_right key_total (key_of (any x)) k (key_of (any y)) e) ∙ below_key before x after rise y i in
      let a' : ((y : R) → IsIn y after → key_cmp (key_of (any y)) k ≡ Greater) = λ y i. less_back k (key_of (any y)) (sym (key_total.congr (key_of (any x)) k (key_of (any y)) e) ∙ above_key before x after rise y i) in
      record {
        in_range = b;
        before = sym (subst (λ l. rows_below (λ y. key_of (any y)) k l ≡ before) cut (mid-below k before x after b' e a'));
        after = sym (subst (λ l. rows_above (λ y. key_of (any y)) k l ≡ after) cut (mid-above k before x after b' e a'));
        there = subst (λ l. list_any (is_key k) (keys_by any l) ≡ true) cut (is_there k (before ++ x ∷ after) x (in_right x before (x ∷ after) (inl refl)) e);
      }

  pub belongs : (k : Key) (rows : List R) (at : ℕ) → IsStrictlySortedBy key_cmp (keys_by any rows) → at ≤ length rows → (IsNonDecreasingBy (λ y. ordering_index (key_cmp (key_of (any y)) k)) rows → IsPartitionPoint (λ y. key_cmp (key_of (any y)) k ≡ Less) (λ y. key_cmp (key_of (any y)) k ≡ Greater) rows at) → BelongsAt any k rows at
  belongs k rows at s b h =
      let point = h (searchable_from_sorted key_total (λ y. key_of (any y)) rows k (sorted_rows rows s)) in
      let before : List R = take at rows in
      let after : List R = drop at rows in
      let cut : before ++ after ≡ rows = take-append-drop at rows in
      let b' : ((y : R) → IsIn y before → key_cmp (key_of (any y)) k ≡ Less) = take_all (λ y. key_cmp (key_of (any y)) k ≡ Less) rows at b point.0 in
      let a' : ((y : R) → IsIn y after → key_cmp (key_of (any y)) k ≡ Greater) = drop_all (λ y. key_cmp (key_of (any y)) k ≡ Greater) rows at point.1 in
      let none : ((y : R) → IsIn y (before ++ after) → is_eq (key_cmp k (key_of (any y))) ≡ false) =
      λ y i. elim (in-append y before after i) [ inl j ↦ ap is_eq (less_back (key_of (any y)) k (b' y j)) | inr j ↦ ap is_eq (greater_back (key_of (any y)) k (a' y j)) ] in
      record {
        in_range = b;
        before = sym (subst (λ l. rows_below (λ y. key_of (any y)) k l ≡ before) cut (gap-below k before after b' a'));
        after = sym (subst (λ l. rows_above (λ y. key_of (any y)) k l ≡ after) cut (gap-above k before after b' a'));
        absent = subst (λ l. list_any (is_key k) (keys_by any l) ≡ false) cut (is_absent k (before ++ after) none);
      }

  -- ---- a row that is put, and a row that is taken out

  pub put_over : (x : R) (rows : List R) (at : ℕ) → StandsAt any (key_of (any x)) rows at → set rows at x ≡ with_one (λ y. key_of (any y)) x rows
  unfolding with_one
  put_over x rows at s = set_is rows at x s.in_range ∙ ap (λ l. l ++ x ∷ drop (suc at) rows) s.before ∙ ap (λ l. rows_below (λ y. key_of (any y)) (key_of (any x)) rows ++ x ∷ l) s.after

  pub put_beside : (x : R) (rows : List R) (at : ℕ) → BelongsAt any (key_of (any x)) rows at → insert rows at x ≡ with_one (λ y. key_of (any y)) x rows
  unfolding with_one
  put_beside x rows at s = ap (λ l. l ++ x ∷ drop at rows) s.before ∙ ap (λ l. rows_below (λ y. key_of (any y)) (key_of (any x)) rows ++ x ∷ l) s.after

  pub taken_out : (k : Key) (rows : List R) (at : ℕ) → StandsAt any k rows at → remove rows at ≡ without_one (λ y. key_of (any y)) k rows
  unfolding without_one
  taken_out k rows at s = ap (λ l. l ++ drop (suc at) rows) s.before ∙ ap (λ l. rows_below (λ y. key_of (any y)) k rows ++ l) s.after

  pub none_taken : (k : Key) (rows : List R) (at : ℕ) → BelongsAt any k rows at → rows ≡ without_one (λ y. key_of (any y)) k rows
  unfolding without_one
  none_taken k rows at s = sym (take-append-drop at rows) ∙ ap (λ l. l ++ drop at rows) s.before ∙ ap (λ l. rows_below (λ y. key_of (any y)) k rows ++ l) s.after

  -- what `binary_search_by` answers, said of keys
  pub searched : (k : Key) (rows : List R) (r : Result ℕ ℕ) → IsStrictlySortedBy key_cmp (keys_by any rows) → IsSearchInRange r (length rows) → IsBinarySearchResult (λ y. key_cmp (key_of (any y)) k) rows r → IfOk r (StandsAt any k rows) × IfErr r (BelongsAt any k rows)
  searched k rows (Ok at) s b h = (stands k rows at s b h, tt)
  searched k rows (Err at) s b h = (tt, belongs k rows at s b h)
