-- Weights under which more or less is put: what is found, and whose weights they are.
use Rattle.std.proofs.Common.{◌≡◌, ℕ, zero, suc, ◌+◌, ◌<◌, ◌≤◌, Bool, true, false, cond, ◌||◌, ◌==◌, List, [], ◌∷◌, ◌++◌, map, set, length, get_or, Option, Some, None, is_some, inl, inr, ℤ, pos, ◌+ℤ◌, refl, sym, ap, ◌∙◌, subst, arith}
use Rattle.std.proofs.lemmas.Bool.{false≢true}
use Rattle.std.proofs.lemmas.Bool.Decides.{nat_tests}
use Rattle.std.proofs.lemmas.List.{map-append}
use Rattle.std.proofs.lemmas.List.Sums.{sum_by-cons}
use Rattle.std.specs.Prelude.{find}
use Rattle.std.specs.Ordering.{nat_cmp}
use Rattle.std.specs.List.{AllByRecursion, list_any}
use Rattle.std.specs.List.Sorted.{IsStrictlySortedBy}
use Rattle.std.specs.Option.{option_map_or}
use Rattle.std.specs.declared.cmp.Ordering.TheVariants.{Less}
use Rattle.desk_base.specs.declared.rows.tables.Tables.{Tables}
use Rattle.desk_base.specs.declared.rows.bookings.BookingRow.{BookingRow}
use Rattle.desk_base.specs.declared.rows.resources.ResourceRow.{ResourceRow}
use Rattle.desk_base.specs.declared.search.results.Ask.{Ask}
use Rattle.desk_base.specs.rules.Limits.{first_minute, end_of_minutes}
use Rattle.desk_base.specs.rows.Ranges.{owns}
use Rattle.desk_base.specs.meaning.Capacity.{resource_of}
use Rattle.desk_base.specs.meaning.Load.{unknown, sort_of_kind, load, load_by, weight, ask_of}
use Rattle.desk_base.specs.changes.Changes.{rows_below, rows_above, with_one, without_one}
use Rattle.desk_base.proofs.lists.Members.{IsIn, all_from, all_at, in_mapped}
use Rattle.desk_spans.specs.Timeline.{end_of, value_at}
use Rattle.desk_load.specs.declared.weights.Weight.{Weight}
use Rattle.desk_load.specs.Index.{IsWeightOf, AreWeightsOf}
use Rattle.desk_load.specs.Turns.{value_under, AreWhole, AreRaised}
use Rattle.desk_load.proofs.Finding.{weight_found}
use Rattle.desk_load.proofs.Weighed.{weight-append}
use Rattle.desk_load.proofs.OneBooking.{key, with_is, without_is}

-- ---- finding by rising numbers

same : (a b : ℕ) → a ≡ b → (a == b) ≡ true
same a b e = grind (arith, nat_tests)

other : (a b : ℕ) → nat_cmp a b ≡ Less → (a == b) ≡ false
other a b e = grind (arith, nat_tests)

pub found_own : {A : Type 0} (f : A → ℕ) (xs : List A) (x : A) → IsStrictlySortedBy nat_cmp (map f xs) → IsIn x xs → find (owns f (f x)) xs ≡ Some x
unfolding IsStrictlySortedBy
found_own f [] x s i = absurd i
found_own f (y ∷ ys) x s (inl e) = ap (λ c. cond c (Some y) (find (owns f (f x)) ys)) (same (f y) (f x) (ap f (sym e))) ∙ ap Some (sym e)
found_own f (y ∷ ys) x s (inr i) = ap (λ c. cond c (Some y) (find (owns f (f x)) ys)) (other (f y) (f x) (all_at (λ k. nat_cmp (f y) k ≡ Less) (map f ys) (f x) s.0 (in_mapped f x ys i))) ∙ found_own f ys x s.1 i

pub is_found : {A : Type 0} (f : A → ℕ) (r : ℕ) (xs : List A) → is_some (find (owns f r) xs) ≡ list_any (λ k. k == r) (map f xs)
is_found f r [] = refl
is_found {A} f r (x ∷ xs) = step (f x == r) (is_found f r xs)
  where
    step : (b : Bool) → is_some (find (owns f r) xs) ≡ list_any (λ k. k == r) (map f xs) → is_some (cond b (Some x) (find (owns f r) xs)) ≡ (b || list_any (λ k. k == r) (map f xs))
    step true h = refl
    step false h = h

none_is : {A : Type 0} (o : Option A) → is_some o ≡ false → o ≡ None
none_is None e = refl
none_is (Some x) e = absurd (false≢true (sym e))

-- ---- what no resource weighs

unknown_load : (t : Tables) (r m : ℕ) (a : Ask) → resource_of t r ≡ None → load t r m a ≡ 0
unfolding load
unknown_load t r m a e = ap (λ (o : Option ResourceRow). load_by (option_map_or (λ (x : ResourceRow). sort_of_kind x.kind) o unknown) t r m a) e

unknown_weight : (t : Tables) (asks : List Ask) (r m : ℕ) → resource_of t r ≡ None → weight t asks r m ≡ 0
unknown_weight t [] r m e = refl
unknown_weight t (a ∷ asks) r m e = let h = unknown_weight t asks r m e in let l = unknown_load t r m a e in let s = sum_by-cons (load t r m) a asks in omega (arith, h, l, s)

-- ---- what weights say, and of which tables

-- under each number stands the weight of it
pub under_is : (t : Tables) (ws : List Weight) (r m : ℕ) → AreWeightsOf t ws → first_minute ≤ m → m < end_of_minutes → value_under r m ws ≡ pos (weight t (map ask_of t.bookings) r m)
under_is t ws r m h l e = go (find (owns (λ (w : Weight). w.resource) r) ws) refl
  where
    go : (o : Option Weight) → find (owns (λ (w : Weight). w.resource) r) ws ≡ o → option_map_or (λ (w : Weight). value_at w.weight m) o (pos 0) ≡ pos (weight t (map ask_of t.bookings) r m)
    go (Some w) f = (weight_found t ws r w h f).weight_at m l e
    go None f =
        let a = is_found (λ (w : Weight). w.resource) r ws in
        let b = is_found (λ (x : ResourceRow). x.id) r t.resources in
        let c : is_some (resource_of t r) ≡ false = b ∙ ap (list_any (λ k. k == r)) (sym h.numbers) ∙ sym a ∙ ap is_some f in
        ap pos (sym (unknown_weight t (map ask_of t.bookings) r m (none_is (resource_of t r) c)))

each_whole : (t : Tables) (ws : List Weight) → AllByRecursion (λ (w : Weight). IsWeightOf t w.resource w.weight) ws → AreWhole ws
each_whole t [] h = tt
each_whole t (w ∷ ws) h = ((h.0.begin, h.0.end), each_whole t ws h.1)

pub are_whole : (t : Tables) (ws : List Weight) → AreWeightsOf t ws → AreWhole ws
are_whole t ws h = each_whole t ws h.each

pub numbers_rise : (old new : List Weight) → map (λ (w : Weight). w.resource) new ≡ map (λ (w : Weight). w.resource) old → IsStrictlySortedBy nat_cmp (map (λ (w : Weight). w.resource) old) → IsStrictlySortedBy nat_cmp (map (λ (w : Weight). w.resource) new)
numbers_rise old new e s = subst (IsStrictlySortedBy nat_cmp) (sym e) s

-- weights that were raised are those of tables whose bookings weigh so much more
pub raised_weights : (t s : Tables) (more : ℕ → ℕ → ℤ) (old new : List Weight) → s.resources ≡ t.resources → IsStrictlySortedBy nat_cmp (map (λ (w : Weight). w.resource) old) → AreWeightsOf t old → AreRaised more old new
    → ((r m : ℕ) → pos (weight s (map ask_of s.bookings) r m) ≡ pos (weight t (map ask_of t.bookings) r m) +ℤ more r m) → AreWeightsOf s new
raised_weights t s more old new e rise h raised w = record {
  numbers = raised.numbers ∙ h.numbers ∙ sym (ap (map (λ (x : ResourceRow). x.id)) e);
  each = all_from (λ (x : Weight). IsWeightOf s x.resource x.weight) new (λ x i.
      let whole = all_at (λ (y : Weight). (y.weight.from ≡ first_minute) × (end_of y.weight ≡ end_of_minutes)) new x raised.whole i in
      record {
        begin = whole.0;
        end = whole.1;
        weight_at = λ m l b.
            sym (ap (λ (o : Option Weight). option_map_or (λ (y : Weight). value_at y.weight m) o (pos 0)) (found_own (λ (y : Weight). y.resource) new x (numbers_rise old new raised.numbers rise) i))
            ∙ raised.values x.resource m l b
            ∙ ap (λ z. z +ℤ more x.resource m) (under_is t old x.resource m h l b)
            ∙ sym (w x.resource m);
      });
}

-- ---- one weight in the place of another

not_same : (a b c : ℕ) → nat_cmp a b ≡ Less → (b == c) ≡ true → (a == c) ≡ false
not_same a b c e f = grind (arith, nat_tests)

pub in_place : {A : Type 0} (f : A → ℕ) (xs : List A) (at : ℕ) (d : A) → at < length xs → IsIn (f (get_or xs at d)) (map f xs)
in_place f [] at d l = absurd (omega arith)
in_place f (x ∷ xs) zero d l = inl refl
in_place f (x ∷ xs) (suc at) d l = inr (in_place f xs at d (omega arith))

-- what is found where one of the same number was put at a place
pub found_set : {A : Type 0} (f : A → ℕ) (xs : List A) (at : ℕ) (x d : A) (r : ℕ) → IsStrictlySortedBy nat_cmp (map f xs) → at < length xs → f (get_or xs at d) ≡ f x → find (owns f r) (set xs at x) ≡ cond (f x == r) (Some x) (find (owns f r) xs)
unfolding IsStrictlySortedBy
found_set f [] at x d r s l e = absurd (omega arith)
found_set {A} f (y ∷ ys) zero x d r s l e = step (f x == r) refl
  where
    step : (b : Bool) → (f x == r) ≡ b → cond b (Some x) (find (owns f r) ys) ≡ cond b (Some x) (cond (f y == r) (Some y) (find (owns f r) ys))
    step true g = refl
    step false g = sym (ap (λ c. cond c (Some y) (find (owns f r) ys)) (ap (λ n. n == r) e ∙ g))
found_set {A} f (y ∷ ys) (suc at) x d r s l e = step (f x == r) refl (found_set f ys at x d r s.1 (omega arith) e)
  where
    below : nat_cmp (f y) (f x) ≡ Less
    below = subst (λ n. nat_cmp (f y) n ≡ Less) e (all_at (λ k. nat_cmp (f y) k ≡ Less) (map f ys) (f (get_or ys at d)) s.0 (in_place f ys at d (omega arith)))

    step : (b : Bool) → (f x == r) ≡ b → find (owns f r) (set ys at x) ≡ cond b (Some x) (find (owns f r) ys)
        → cond (f y == r) (Some y) (find (owns f r) (set ys at x)) ≡ cond b (Some x) (cond (f y == r) (Some y) (find (owns f r) ys))
    step true g h = ap (λ c. cond c (Some y) (find (owns f r) (set ys at x))) (not_same (f y) (f x) r below g) ∙ h
    step false g h = ap (λ o. cond (f y == r) (Some y) o) h

pub in_at : {A : Type 0} (xs : List A) (at : ℕ) (d : A) → at < length xs → IsIn (get_or xs at d) xs
in_at [] at d l = absurd (omega arith)
in_at (x ∷ xs) zero d l = inl refl
in_at (x ∷ xs) (suc at) d l = inr (in_at xs at d (omega arith))

-- ---- one booking more

pub weight_with : (t : Tables) (b : BookingRow) (bs : List BookingRow) (r m : ℕ) → weight t (map ask_of (with_one key b bs)) r m ≡ weight t (map ask_of (without_one key (key b) bs)) r m + load t r m (ask_of b)
weight_with t b bs r m =
    let below = rows_below key (key b) bs in
    let above = rows_above key (key b) bs in
    let w = λ (l : List BookingRow). weight t (map ask_of l) r m in
    let a : weight t (map ask_of (with_one key b bs)) r m ≡ weight t (map ask_of (below ++ b ∷ above)) r m = ap w (with_is b bs) in
    let c : weight t (map ask_of (without_one key (key b) bs)) r m ≡ weight t (map ask_of (below ++ above)) r m = ap w (without_is (key b) bs) in
    let d = ap (λ l. weight t l r m) (map-append ask_of below (b ∷ above)) ∙ weight-append t (map ask_of below) (map ask_of (b ∷ above)) r m in
    let e = ap (λ l. weight t l r m) (map-append ask_of below above) ∙ weight-append t (map ask_of below) (map ask_of above) r m in
    let f = sum_by-cons (load t r m) (ask_of b) (map ask_of above) in
    omega (arith, a, c, d, e, f)
