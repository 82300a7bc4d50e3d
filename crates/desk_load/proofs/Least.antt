-- The least booking that counts, resource by resource, and why no other counts.
use Rattle.std.proofs.Common.{◌≡◌, ℕ, suc, ◌+◌, ◌≤◌, ◌<◌, Bool, true, false, cond, ◌&&◌, ◌||◌, ◌==◌, nat_lt, List, [], ◌∷◌, ◌++◌, length, take, drop, Option, Some, None, inl, inr, refl, sym, ap, ◌∙◌, subst, arith}
use Rattle.std.proofs.lemmas.Bool.{false≢true}
use Rattle.std.proofs.lemmas.Bool.Decides.{nat_tests}
use Rattle.std.proofs.lemmas.List.{take-append-drop}
use Rattle.std.proofs.Math.Seq.{drop-cons}
use Rattle.std.specs.Prelude.{filter, find, sum_by, option_map, slice_index_or, IfSome}
use Rattle.std.specs.List.{AllByRecursion}
use Rattle.desk_base.specs.declared.rows.tables.Tables.{Tables}
use Rattle.desk_base.specs.declared.rows.bookings.BookingRow.{BookingRow}
use Rattle.desk_base.specs.declared.search.results.Ask.{Ask}
use Rattle.desk_base.specs.meaning.Time.{covers}
use Rattle.desk_base.specs.meaning.Load.{LoadSort, plain, crew, pool, unknown, sort_of, members, loads, own_load, plain_load, load_by, counts, ask_of}
use Rattle.desk_base.specs.rows.Ranges.{Rise, IsUnder, owns}
use Rattle.desk_base.specs.rules.Sound.{AreWellFormed}
use Rattle.desk_base.proofs.tables.Rising.{bookings_rise}
use Rattle.desk_base.proofs.lists.Bounds.{find_within}
use Rattle.desk_base.proofs.lists.Members.{IsIn}
use Rattle.desk_base.proofs.lists.Tests.{list_any_from, and_right}
use Rattle.desk_member.proofs.MemberRows.{keys_rise}
use Rattle.desk_member.specs.Spans.{rows_of_group}
use Rattle.desk_load.specs.declared.view.places.Place.{Place}
use Rattle.desk_load.specs.Views.{ViewParts, demand_at, demand_of}
use Rattle.desk_load.specs.Scans.{plain_and_groups, members_and_groups}
use Rattle.desk_load.proofs.Used.{load_as, load_covered, load_missed, own_is, plain_is}
use Rattle.desk_load.proofs.Scanned.{take_more, same, equal, sum_some, some_of_two, where_true, row_of_member, in_crew, loaded, groups_of}
use Rattle.desk_load.specs.Shown.{least, counts_at, stands_on, first_of, first_on, bearing_by, bearing_on}

-- ---- finding by one test or another

pub find_same : {A : Type 0} (p q : A → Bool) (xs : List A) → ((x : A) → p x ≡ q x) → find p xs ≡ find q xs
find_same p q [] h = refl
find_same p q (x ∷ xs) h = ap (λ b. cond b (Some x) (find p xs)) (h x) ∙ ap (cond (q x) (Some x)) (find_same p q xs h)

-- what is found is not below the head of a rising list
not_below : (n : ℕ) (p : BookingRow → Bool) (xs : List BookingRow) → AllByRecursion (λ (y : BookingRow). n ≤ y.id) xs → IfSome (option_map (λ (b : BookingRow). b.id) (find p xs)) (λ k. n ≤ k)
not_below n p [] a = tt
not_below n p (x ∷ xs) a = step (p x) (not_below n p xs a.1)
  where
    step : (b : Bool) → IfSome (option_map (λ (b : BookingRow). b.id) (find p xs)) (λ k. n ≤ k) → IfSome (option_map (λ (b : BookingRow). b.id) (cond b (Some x) (find p xs))) (λ k. n ≤ k)
    step true h = a.0
    step false h = h

at_most : (x : BookingRow) (xs : List BookingRow) → AllByRecursion (IsUnder (λ (b : BookingRow). b.id) (λ _. 0) x) xs → AllByRecursion (λ (y : BookingRow). x.id ≤ y.id) xs
at_most x [] a = tt
at_most x (y ∷ ys) a = (elim a.0 [ inl l ↦ omega arith | inr e ↦ omega (arith, e.0) ], at_most x ys a.1)

least_left : (n : ℕ) (o : Option ℕ) → IfSome o (λ k. n ≤ k) → least (Some n) o ≡ Some n
least_left n None h = refl
least_left n (Some k) h = ap (λ b. cond b (Some k) (Some n)) (let e : nat_lt k n ≡ false = grind (arith, nat_tests) in e)

least_right : (n : ℕ) (o : Option ℕ) → IfSome o (λ k. n ≤ k) → least o (Some n) ≡ Some n
least_right n None h = refl
least_right n (Some k) h = by (nat_lt n k) refl
  where
    by : (b : Bool) → nat_lt n k ≡ b → cond b (Some n) (Some k) ≡ Some n
    by true e = refl
    by false e = ap Some (let f : k ≡ n = grind (arith, nat_tests) in f)

find_either : (p q : BookingRow → Bool) (xs : List BookingRow) → Rise (λ (b : BookingRow). b.id) (λ _. 0) xs
    → least (option_map (λ (b : BookingRow). b.id) (find p xs)) (option_map (λ (b : BookingRow). b.id) (find q xs)) ≡ option_map (λ (b : BookingRow). b.id) (find (λ x. p x || q x) xs)
unfolding Rise
find_either p q [] r = refl
find_either p q (x ∷ xs) r = step (p x) (q x) (find_either p q xs r.1)
  where
    id_of : Option BookingRow → Option ℕ
    id_of o = option_map (λ (b : BookingRow). b.id) o

    step : (a b : Bool) → least (option_map (λ (b : BookingRow). b.id) (find p xs)) (option_map (λ (b : BookingRow). b.id) (find q xs)) ≡ option_map (λ (b : BookingRow). b.id) (find (λ x. p x || q x) xs)
        → least (option_map (λ (b : BookingRow). b.id) (cond a (Some x) (find p xs))) (option_map (λ (b : BookingRow). b.id) (cond b (Some x) (find q xs))) ≡ option_map (λ (b : BookingRow). b.id) (cond (a || b) (Some x) (find (λ x. p x || q x) xs))
    step true true h = least_left x.id (Some x.id) (omega arith)
    step true false h = least_left x.id (option_map (λ (b : BookingRow). b.id) (find q xs)) (not_below x.id q xs (at_most x xs r.0))
    step false true h = least_right x.id (option_map (λ (b : BookingRow). b.id) (find p xs)) (not_below x.id p xs (at_most x xs r.0))
    step false false h = h

-- ---- one resource more

module _ (v : ViewParts) (p : Place) where
  one_resource : (q : ℕ) → first_of v p (filter (owns (λ (b : BookingRow). b.resource) q) v.tables.bookings) ≡ first_on v p (q ∷ [])
  one_resource q =
      ap (option_map (λ (b : BookingRow). b.id)) (sym (find_within (owns (λ (b : BookingRow). b.resource) q) (counts_at v p) v.tables.bookings) ∙ find_same (λ b. (b.resource == q) && counts_at v p b) (λ b. stands_on (q ∷ []) b && counts_at v p b) v.tables.bookings (λ b. ap (λ x. x && counts_at v p b) (turned b.resource q)))
    where
      turned : (a b : ℕ) → (a == b) ≡ ((b == a) || false)
      turned a b = grind (arith, nat_tests)

  any-append : (b : BookingRow) (xs ys : List ℕ) → stands_on (xs ++ ys) b ≡ (stands_on xs b || stands_on ys b)
  any-append b [] ys = refl
  any-append b (x ∷ xs) ys = ap (λ c. (x == b.resource) || c) (any-append b xs ys) ∙ assoc (x == b.resource) (stands_on xs b) (stands_on ys b)
    where
      assoc : (a b c : Bool) → (a || (b || c)) ≡ ((a || b) || c)
      assoc true b c = refl
      assoc false b c = refl

  pub first_more : (w : AreWellFormed v.tables) (seen : List ℕ) (q : ℕ) (found other result : Option ℕ) → found ≡ first_on v p seen → other ≡ first_of v p (filter (owns (λ (b : BookingRow). b.resource) q) v.tables.bookings) → result ≡ least found other → result ≡ first_on v p (seen ++ q ∷ [])
  first_more w seen q found other result e f g =
      g ∙ ap (λ o. least o other) e ∙ ap (least (first_on v p seen)) (f ∙ one_resource q)
      ∙ find_either (λ b. stands_on seen b && counts_at v p b) (λ b. stands_on (q ∷ []) b && counts_at v p b) v.tables.bookings (bookings_rise v.tables (keys_rise v.tables w))
      ∙ ap (option_map (λ (b : BookingRow). b.id)) (find_same _ (λ b. stands_on (seen ++ q ∷ []) b && counts_at v p b) v.tables.bookings (λ b. joined (stands_on seen b) (stands_on (q ∷ []) b) (counts_at v p b) ∙ ap (λ x. x && counts_at v p b) (sym (any-append b seen (q ∷ [])))))
    where
      joined : (a b c : Bool) → ((a && c) || (b && c)) ≡ ((a || b) && c)
      joined true true true = refl
      joined true true false = refl
      joined true false true = refl
      joined true false false = refl
      joined false b c = refl

-- ---- finding along a list

past : {A : Type 0} (p : A → Bool) (xs ys : List A) → find p xs ≡ None → find p (xs ++ ys) ≡ find p ys
past p [] ys n = refl
past {A} p (x ∷ xs) ys n = step (p x) n (past p xs ys)
  where
    step : (b : Bool) → cond b (Some x) (find p xs) ≡ None → (find p xs ≡ None → find p (xs ++ ys) ≡ find p ys) → cond b (Some x) (find p (xs ++ ys)) ≡ find p ys
    step true m r = cc
    step false m r = r m

pub found_at : {A : Type 0} (p : A → Bool) (xs : List A) (i : ℕ) (x : A) → i < length xs → x ≡ slice_index_or xs i x → find p (take i xs) ≡ None → p x ≡ true → find p xs ≡ Some x
found_at p xs i x h e n t =
    ap (find p) (sym (take-append-drop i xs)) ∙ past p (take i xs) (drop i xs) n ∙ ap (find p) (drop-cons xs i x h) ∙ ap (λ y. cond (p y) (Some y) (find p (drop (suc i) xs))) (sym e) ∙ ap (λ b. cond b (Some x) (find p (drop (suc i) xs))) t

pub none_more : {A : Type 0} (p : A → Bool) (xs : List A) (i : ℕ) (x : A) → i < length xs → x ≡ slice_index_or xs i x → find p (take i xs) ≡ None → p x ≡ false → find p (take (i + 1) xs) ≡ None
none_more p xs i x h e n f = ap (find p) (take_more xs i x h e) ∙ past p (take i xs) (x ∷ []) n ∙ ap (λ b. cond b (Some x) None) f

-- ---- no other booking counts

pub first_nothing : (v : ViewParts) (p : Place) → None ≡ first_on v p []
first_nothing v p = sym (ap (option_map (λ (b : BookingRow). b.id)) (none v.tables.bookings))
  where
    none : (xs : List BookingRow) → find (λ b. stands_on [] b && counts_at v p b) xs ≡ None
    none [] = refl
    none (x ∷ xs) = none xs

module _ (t : Tables) (a : Ask) (k : ℕ) (w : AreWellFormed t) where
  bearing_as : (s : LoadSort) (r : ℕ) → sort_of t r ≡ s → IsIn a.resource (bearing_by s t r k) → IsIn a.resource (bearing_on t r k)
  bearing_as s r e i = subst (λ s. IsIn a.resource (bearing_by s t r k)) (sym e) i

  -- a booking that loads x stands on x or on a crew that it is in
  loaded_from : (x : ℕ) → loads t a.resource x k ≡ true → IsIn a.resource (plain_and_groups t x k)
  loaded_from x h = elim (loaded t (demand_of a) k w x h) [ inl e ↦ inl (sym e) | inr e ↦ inr (groups_of t (demand_of a) k w a.resource x e.1) ]

  plain_from : (x : ℕ) → nat_lt 0 (plain_load t x k (demand_at (demand_of a) k)) ≡ true → IsIn a.resource (plain_and_groups t x k)
  plain_from x h = loaded_from x (where_true (loads t a.resource x k) a.effort (ap (nat_lt 0) (sym (plain_is (demand_of a) k t x)) ∙ h))

  own_from : (r : ℕ) → nat_lt 0 (own_load r k (demand_at (demand_of a) k)) ≡ true → a.resource ≡ r
  own_from r h = same a.resource r (where_true (a.resource == r) a.effort (ap (nat_lt 0) (sym (own_is (demand_of a) k r)) ∙ h))

  from_members : (r x : ℕ) → IsIn x (members t r k) → IsIn a.resource (plain_and_groups t x k) → IsIn a.resource (members_and_groups t (rows_of_group t r) k)
  from_members r x i j =
      let m = row_of_member t r k x i in
      in_crew t r k a.resource m.0 m.1 m.2 m.3 (subst (λ n. IsIn a.resource (plain_and_groups t n k)) m.4 j)

  by_sort : (s : LoadSort) (r : ℕ) → sort_of t r ≡ s → nat_lt 0 (load_by s t r k (demand_at (demand_of a) k)) ≡ true → IsIn a.resource (bearing_on t r k)
  by_sort plain r e h = bearing_as plain r e (plain_from r h)
  by_sort crew r e h = bearing_as crew r e (inl (own_from r h))
  by_sort pool r e h = elim (some_of_two (own_load r k (demand_at (demand_of a) k)) (sum_by (λ x. plain_load t x k (demand_at (demand_of a) k)) (members t r k)) h) [
    | inl g ↦ bearing_as pool r e (inl (own_from r g))
    | inr g ↦ let x = sum_some (λ x. plain_load t x k (demand_at (demand_of a) k)) (members t r k) g in bearing_as pool r e (inr (from_members r x.0 x.1 (plain_from x.0 x.2)))
  ]
  by_sort unknown r e h = absurd (false≢true h)

  covered_by : (r : ℕ) (b : Bool) → covers a.window.from a.window.to k ≡ b → counts t r k a ≡ true → IsIn a.resource (bearing_on t r k)
  covered_by r true e h = by_sort (sort_of t r) r refl (ap (nat_lt 0) (sym (load_covered t a k r e ∙ load_as (sort_of t r) t r k (demand_at (demand_of a) k) refl)) ∙ h)
  covered_by r false e h = absurd (false≢true (ap (nat_lt 0) (sym (load_missed t a k r e)) ∙ h))

  -- a booking that counts stands on a resource that bears on r
  pub counts_from : (r : ℕ) → counts t r k a ≡ true → IsIn a.resource (bearing_on t r k)
  counts_from r h = covered_by r (covers a.window.from a.window.to k) refl h

pub first_whole : (v : ViewParts) (p : Place) → AreWellFormed v.tables → first_on v p (bearing_on v.tables p.resource p.minute) ≡ first_of v p v.tables.bookings
first_whole v p w = ap (option_map (λ (b : BookingRow). b.id)) (find_same (λ b. stands_on (bearing_on v.tables p.resource p.minute) b && counts_at v p b) (counts_at v p) v.tables.bookings (λ b. both b (counts_at v p b) refl))
  where
    one_of : (b : BookingRow) → counts_at v p b ≡ true → stands_on (bearing_on v.tables p.resource p.minute) b ≡ true
    one_of b e = list_any_from (λ r. r == b.resource) (bearing_on v.tables p.resource p.minute) b.resource (counts_from v.tables (ask_of b) p.minute w p.resource (and_right _ (counts v.tables p.resource p.minute (ask_of b)) e)) (equal b.resource)

    both : (b : BookingRow) (x : Bool) → counts_at v p b ≡ x → (stands_on (bearing_on v.tables p.resource p.minute) b && counts_at v p b) ≡ counts_at v p b
    both b true e = ap (λ y. y && counts_at v p b) (one_of b e)
    both b false e = ap (λ y. stands_on (bearing_on v.tables p.resource p.minute) b && y) e ∙ nothing (stands_on (bearing_on v.tables p.resource p.minute) b) ∙ sym e
      where
        nothing : (y : Bool) → (y && false) ≡ false
        nothing true = refl
        nothing false = refl
