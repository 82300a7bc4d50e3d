-- Whether a booking has room on a resource, by what stands, what is laid on top and what the booking takes.
use Rattle.std.proofs.Common.{◌≡◌, ℕ, ◌+◌, ◌≤◌, Bool, true, false, cond, not, ◌||◌, ◌==◌, nat_le, nat_lt, List, [], ◌∷◌, ◌++◌, map, length, Option, Some, None, refl, sym, ap, ◌∙◌, subst, arith}
use Rattle.std.proofs.lemmas.Bool.{false≢true}
use Rattle.std.proofs.lemmas.Bool.Decides.{nat_tests}
use Rattle.std.proofs.lemmas.List.{length-map}
use Rattle.std.proofs.lemmas.List.Sums.{sum_by-cons}
use Rattle.std.specs.Prelude.{filter, find, IfSome}
use Rattle.std.specs.List.{list_any}
use Rattle.std.specs.Option.{option_map_or}
use Rattle.desk_base.specs.declared.rows.tables.Tables.{Tables}
use Rattle.desk_base.specs.declared.rows.bookings.BookingRow.{BookingRow}
use Rattle.desk_base.specs.declared.search.results.Ask.{Ask}
use Rattle.desk_base.specs.declared.rows.resources.ResourceRow.{ResourceRow}
use Rattle.desk_base.specs.meaning.Capacity.{resource_of}
use Rattle.desk_base.specs.rows.Ranges.{owns}
use Rattle.desk_base.specs.rules.Sound.{AreWellFormed}
use Rattle.desk_base.specs.meaning.Load.{unknown, sort_of_kind, load, weight, counts, room, ask_of}
use Rattle.desk_load.specs.Views.{ViewParts, is_own, own_asks, other_asks, standing, HasRoomOn}
use Rattle.desk_load.specs.declared.weights.Weight.{Weight}
use Rattle.desk_load.specs.Index.{AreWeightsOf}
use Rattle.desk_load.specs.declared.limits.TheConstants.{MOST_LAID}
use Rattle.desk_base.specs.declared.rows.tables.Table.TheVariants.{Member as MemberTable}
use Rattle.desk_base.specs.rules.TableLimits.{limit_of}
use Rattle.desk_base.specs.declared.rows.resources.MemberRow.{MemberRow}
use Rattle.desk_member.specs.Spans.{rows_of_group}
use Rattle.desk_member.proofs.SumLemmas.{sum_zeros}
use Rattle.desk_load.proofs.Weighed.{weight-append, weight-one, few_bookings, few_members}
use Rattle.desk_load.proofs.Used.{load_as}

-- the standing bookings are those of the group and those of others
weight-split : (t : Tables) (without : Option ℕ) (r m : ℕ) (bookings : List BookingRow) → weight t (map ask_of bookings) r m ≡ weight t (map ask_of (filter (λ b. not (is_own without b)) bookings)) r m + weight t (map ask_of (filter (is_own without) bookings)) r m
weight-split t without r m [] = refl
weight-split t without r m (b ∷ bs) = step (is_own without b) (weight-split t without r m bs)
  where
    step : (o : Bool) → weight t (map ask_of bs) r m ≡ weight t (map ask_of (filter (λ b. not (is_own without b)) bs)) r m + weight t (map ask_of (filter (is_own without) bs)) r m
        → weight t (ask_of b ∷ map ask_of bs) r m ≡ weight t (map ask_of (cond (not o) (b ∷ filter (λ b. not (is_own without b)) bs) (filter (λ b. not (is_own without b)) bs))) r m + weight t (map ask_of (cond o (b ∷ filter (is_own without) bs) (filter (is_own without) bs))) r m
    step true h = let a = sum_by-cons (load t r m) (ask_of b) (map ask_of bs) in let c = sum_by-cons (load t r m) (ask_of b) (map ask_of (filter (is_own without) bs)) in omega arith
    step false h = let a = sum_by-cons (load t r m) (ask_of b) (map ask_of bs) in let c = sum_by-cons (load t r m) (ask_of b) (map ask_of (filter (λ b. not (is_own without b)) bs)) in omega arith

pub weight_others : (t : Tables) (without : Option ℕ) (r k : ℕ) → weight t (other_asks t without) r k + weight t (own_asks t without) r k ≡ weight t (map ask_of t.bookings) r k
weight_others t without r k = sym (weight-split t without r k t.bookings)

-- what stands in the view and the group's own weigh what stands in the tables and what is laid on top
pub weight_standing : (v : ViewParts) (r k : ℕ) → weight v.tables (standing v) r k + weight v.tables (own_asks v.tables v.without) r k ≡ weight v.tables (map ask_of v.tables.bookings) r k + weight v.tables v.overlay r k
weight_standing v r k =
    let a = weight-append v.tables (other_asks v.tables v.without) v.overlay r k in
    let b = weight-split v.tables v.without r k v.tables.bookings in
    omega (arith, a, b)

module _ (v : ViewParts) (a : Ask) (k r : ℕ) where
  -- where it takes nothing there is nothing to ask
  pub room_untouched : load v.tables r k a ≡ 0 → HasRoomOn v a k r
  room_untouched e c = absurd (let z = ap (nat_lt 0) (sym e) ∙ c in false≢true z)

  pub room_unbounded : room v.tables r k ≡ None → HasRoomOn v a k r
  room_unbounded e c = subst (λ b. IfSome b (λ n. weight v.tables (standing v ++ a ∷ []) r k ≤ n)) (sym e) tt

  weight_with : (n : ℕ) → load v.tables r k a ≡ n → weight v.tables (standing v ++ a ∷ []) r k ≡ weight v.tables (standing v) r k + n
  weight_with n e =
      let x = weight-append v.tables (standing v) (a ∷ []) r k in
      let y = weight-one v.tables a r k in
      omega (arith, x, y, e)

  pub room_within : (n b : ℕ) → load v.tables r k a ≡ n → room v.tables r k ≡ Some b → nat_le (weight v.tables (standing v) r k + n) b ≡ true → HasRoomOn v a k r
  room_within n b e f l c =
      let w = weight_with n e in
      let h : weight v.tables (standing v) r k + n ≤ b = grind (arith, nat_tests) in
      subst (λ b. IfSome b (λ n. weight v.tables (standing v ++ a ∷ []) r k ≤ n)) (sym f) (omega (arith, w, h))

  pub room_short : (n b : ℕ) → load v.tables r k a ≡ n → (n == 0) ≡ false → room v.tables r k ≡ Some b → nat_le (weight v.tables (standing v) r k + n) b ≡ false → HasRoomOn v a k r → ⊥
  room_short n b e z f l h = over (weight v.tables (standing v) r k) (subst (λ b. IfSome b (λ n. weight v.tables (standing v ++ a ∷ []) r k ≤ n)) f (h some)) (weight_with n e) l
    where
      positive : (n : ℕ) → (n == 0) ≡ false → nat_lt 0 n ≡ true
      positive n q = grind (arith, nat_tests)

      some : counts v.tables r k a ≡ true
      some = ap (nat_lt 0) e ∙ positive n z

      over : (s : ℕ) → weight v.tables (standing v ++ a ∷ []) r k ≤ b → weight v.tables (standing v ++ a ∷ []) r k ≡ s + n → nat_le (s + n) b ≡ false → ⊥
      over s l w q = let g : s + n ≤ b = omega (arith, l, w) in grind (arith, nat_tests)

-- ---- what stands on a resource

find_none : {A : Type 0} (f : A → ℕ) (r : ℕ) (xs : List A) → find (owns f r) xs ≡ None → list_any (λ n. n == r) (map f xs) ≡ false
find_none f r [] e = refl
find_none {A} f r (x ∷ xs) e = step (f x == r) refl e (find_none f r xs)
  where
    step : (b : Bool) → (f x == r) ≡ b → cond b (Some x) (find (owns f r) xs) ≡ None → (find (owns f r) xs ≡ None → list_any (λ n. n == r) (map f xs) ≡ false) → (b || list_any (λ n. n == r) (map f xs)) ≡ false
    step true g h k = cc
    step false g h k = k h

pub none_found : {A : Type 0} (f : A → ℕ) (r : ℕ) (xs : List A) → list_any (λ n. n == r) (map f xs) ≡ false → find (owns f r) xs ≡ None
none_found f r [] e = refl
none_found {A} f r (x ∷ xs) e = step (f x == r) e (none_found f r xs)
  where
    step : (b : Bool) → (b || list_any (λ n. n == r) (map f xs)) ≡ false → (list_any (λ n. n == r) (map f xs) ≡ false → find (owns f r) xs ≡ None) → cond b (Some x) (find (owns f r) xs) ≡ None
    step true h k = absurd (false≢true (sym h))
    step false h k = k h

-- a resource without a weight is none of the tables
pub no_weight : (t : Tables) (ws : List Weight) (r : ℕ) → AreWeightsOf t ws → find (owns (λ (w : Weight). w.resource) r) ws ≡ None → resource_of t r ≡ None
no_weight t ws r h e = none_found (λ (x : ResourceRow). x.id) r t.resources (ap (list_any (λ n. n == r)) (sym h.numbers) ∙ find_none (λ (w : Weight). w.resource) r ws e)

-- what is no resource weighs nothing
pub unknown_weighs : (t : Tables) (asks : List Ask) (r k : ℕ) → resource_of t r ≡ None → weight t asks r k ≡ 0
unknown_weighs t asks r k e = sum_zeros (load t r k) asks (λ a i. load_as unknown t r k a (ap (λ o. option_map_or (λ (x : ResourceRow). sort_of_kind x.kind) o unknown) e))

-- ---- with the group's own, or without

few_filtered : {A : Type 0} (p : A → Bool) (xs : List A) → length (filter p xs) ≤ length xs
few_filtered p [] = omega arith
few_filtered p (x ∷ xs) = step (p x) (few_filtered p xs)
  where
    step : (b : Bool) → length (filter p xs) ≤ length xs → length (cond b (x ∷ filter p xs) (filter p xs)) ≤ length (x ∷ xs)
    step true h = omega arith
    step false h = omega arith

pub few_own : (t : Tables) (without : Option ℕ) → AreWellFormed t → length (own_asks t without) ≤ MOST_LAID
few_own t without w = omega (arith, few_bookings t w, length-map t.bookings ask_of, length-map (filter (is_own without) t.bookings) ask_of, few_filtered (is_own without) t.bookings)

pub enough_is : (w o s l n b : ℕ) → w + o ≡ s + l → nat_le (w + n) b ≡ nat_le (s + l + n) (b + o)
enough_is w o s l n b e = grind (arith, nat_tests)

pub few_rows : (t : Tables) (g : ℕ) → AreWellFormed t → length (rows_of_group t g) ≤ limit_of MemberTable
few_rows t g w = omega (arith, few_members t w, few_filtered (λ (x : MemberRow). x.group == g) t.members)
