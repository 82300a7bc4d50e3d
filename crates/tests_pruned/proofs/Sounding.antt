-- A list of which all was tested can be searched.
use Rattle.std.proofs.Common.{◌≡◌, ℕ, zero, suc, ◌+◌, ◌<◌, ◌≤◌, true, List, [], ◌∷◌, ◌++◌, length, length-append, take, get_or, Option, Some, None, inl, inr, refl, sym, ap, ◌∙◌, subst, arith, append_assoc}
use Rattle.std.proofs.lemmas.Bool.{false≢true}
use Rattle.std.proofs.lemmas.List.{append-nil, take_at, take_more}
use Rattle.std.specs.Prelude.{Contains}
use Rattle.std.specs.List.{list_all, slice_index_or}
use Rattle.std.specs.List.Sorted.{IsStrictlySortedBy}
use Rattle.std.specs.Ordering.{is_lt}
use Rattle.std.specs.declared.cmp.Ordering.{Ordering}
use Rattle.std.specs.declared.cmp.Ordering.TheVariants.{Less, Equal, Greater}
use Rattle.desk_base.specs.declared.search.results.Position.{Position}
use Rattle.desk_base.specs.search.Order.{pick_cmp, position_cmp}
use Rattle.desk_base.specs.search.Positions.{position_at, precedes}
use Rattle.desk_base.proofs.lists.Members.{IsIn, in-append, all_from, contains_from_in, in_from_contains}
use Rattle.desk_base.proofs.lists.Tests.{and_left, and_right, list_all_at}
use Rattle.desk_pruned.specs.Ways.{IsSound, costs}
use Rattle.tests_pruned.specs.declared.listed.Listed.{Listed}
use Rattle.tests_pruned.specs.Listed.{ways_of}
use Rattle.tests_pruned.specs.Sound.{rises, picks_rise, IsPlaced, AreChoices}

less_is : (o : Ordering) → is_lt o ≡ true → o ≡ Less
less_is Less e = refl
less_is Equal e = absurd (false≢true e)
less_is Greater e = absurd (false≢true e)

pub rising : (ps : List Position) → rises ps ≡ true → IsStrictlySortedBy position_cmp ps
unfolding IsStrictlySortedBy
rising [] e = tt
rising (p ∷ ps) e = (
  all_from (λ q. position_cmp p q ≡ Less) ps (λ q i. less_is (position_cmp p q) (list_all_at (precedes p) ps q (and_left (list_all (precedes p) ps) (rises ps) e) i)),
  rising ps (and_right (list_all (precedes p) ps) (rises ps) e),
)

pub picks_rising : (xs : List (Option ℕ)) → picks_rise xs ≡ true → IsStrictlySortedBy pick_cmp xs
unfolding IsStrictlySortedBy
picks_rising [] e = tt
picks_rising (x ∷ xs) e = (
  all_from (λ y. pick_cmp x y ≡ Less) xs (λ y i. less_is (pick_cmp x y) (list_all_at (λ y. is_lt (pick_cmp x y)) xs y (and_left (list_all (λ y. is_lt (pick_cmp x y)) xs) (picks_rise xs) e) i)),
  picks_rising xs (and_right (list_all (λ y. is_lt (pick_cmp x y)) xs) (picks_rise xs) e),
)

-- ---- the last pick

-- a list that ends in x, and one whose last but one is y
pub before_last : (xs q : List (Option ℕ)) (x y : Option ℕ) (i : ℕ) → xs ≡ q ++ x ∷ [] → 1 ≤ length q → i + 2 ≡ length xs → y ≡ get_or xs i y → take i xs ++ y ∷ [] ≡ q
before_last xs q x y i e some size here =
    let long = ap length e ∙ length-append q (x ∷ []) in
    let inside : i < length xs = omega arith in
    let same : i + 1 ≡ length q = omega (arith, long, size) in
    ap (λ z. take i xs ++ z ∷ []) here ∙ sym (take_more xs i y inside) ∙ ap (λ n. take n xs) same ∙ ap (take (length q)) e ∙ take_at q (x ∷ []) (length q) refl

pub last_is : (xs q : List (Option ℕ)) (x y : Option ℕ) (i : ℕ) → xs ≡ q ++ x ∷ [] → i + 1 ≡ length xs → y ≡ get_or xs i y → (length q ≡ i) × (y ≡ x)
last_is xs q x y i e size here =
    let long = ap length e ∙ length-append q (x ∷ []) in
    let same : length q ≡ i = omega (arith, long, size) in
    (same, here ∙ ap (λ l. get_or l i y) e ∙ at_end q i same)
  where
    at_end : (q : List (Option ℕ)) (i : ℕ) → length q ≡ i → get_or (q ++ x ∷ []) i y ≡ x
    at_end [] zero e = refl
    at_end [] (suc i) e = absurd (omega arith)
    at_end (z ∷ q) zero e = absurd (omega arith)
    at_end (z ∷ q) (suc i) e = at_end q i (omega arith)

-- ---- all of it

-- what is so of no list and of each list is so of the one at a place
at_place : (P : List (Option ℕ) → Type 0) → P [] → (xs : List (List (Option ℕ))) → ((cs : List (Option ℕ)) → IsIn cs xs → P cs) → (i : ℕ) → P (slice_index_or xs i [])
at_place P none [] h i = none
at_place P none (x ∷ xs) h zero = h x (inl refl)
at_place P none (x ∷ xs) h (suc i) = at_place P none xs (λ cs j. h cs (inr j)) i

costs_few : (xs : List (Option ℕ)) → costs xs ≤ length xs
costs_few [] = omega arith
costs_few (None ∷ xs) = let h = costs_few xs in omega arith
costs_few (Some r ∷ xs) = let h = costs_few xs in omega arith

-- all but the last, and the last
snoc : (x : Option ℕ) (xs : List (Option ℕ)) → (front : List (Option ℕ)) × (y : Option ℕ) × (x ∷ xs ≡ front ++ y ∷ [])
snoc x [] = ([], x, refl)
snoc x (z ∷ xs) = let r = snoc z xs in (x ∷ r.0, r.1, ap (λ l. x ∷ l) r.2)

module _ (s : Listed) (rise : IsStrictlySortedBy position_cmp s.lives) (placed : (p : Position) → Contains s.lives p → IsPlaced s p) (chosen : (cs : List (Option ℕ)) → Contains s.choices cs → AreChoices s cs) where
  begun_by : (n t : ℕ) (first more : List (Option ℕ)) → length more ≡ n → 1 ≤ length first → Contains s.lives (position_at t (first ++ more)) → Contains s.lives (position_at t first)
  begun_by n t first [] e some live = subst (λ l. Contains s.lives (position_at t l)) (append-nil first) live
  begun_by zero t first (x ∷ more) e some live = absurd (omega arith)
  begun_by (suc n) t first (x ∷ more) e some live =
      let r = snoc x more in
      let whole : first ++ x ∷ more ≡ (first ++ r.0) ++ r.1 ∷ [] = ap (λ l. first ++ l) r.2 ∙ sym (append_assoc first r.0 (r.1 ∷ [])) in
      let size = ap length r.2 ∙ length-append r.0 (r.1 ∷ []) in
      let long = length-append first r.0 in
      begun_by n t first r.0 (omega (arith, size, e)) some ((placed (position_at t (first ++ x ∷ more)) live).begun (first ++ r.0) r.1 whole (omega (arith, long, some)))

  pub sound_from : IsSound (ways_of s)
  sound_from = record {
    rising = rise;
    late = λ p h. (placed p h).late;
    some = λ p h. (placed p h).some;
    short = λ p h. (placed p h).short;
    begun = λ t first more some live. begun_by (length more) t first more refl some live;
    offered = λ t first x live. (placed (position_at t (first ++ x ∷ [])) live).offered first x refl;
    rise = λ i. at_place (IsStrictlySortedBy pick_cmp) nothing s.choices (λ cs j. (chosen cs (contains_from_in s.choices cs j)).rise) i;
    few = λ i. at_place (λ cs. costs cs ≤ s.resources) (omega arith) s.choices (λ cs j. let h = costs_few cs in let k = (chosen cs (contains_from_in s.choices cs j)).few in omega (arith, h, k)) i;
  }
    where
      nothing : IsStrictlySortedBy pick_cmp []
      nothing = picks_rising [] refl

-- ---- loops

-- one element more passes
pub one_more : {A : Type 0} (P : A → Type 0) (xs : List A) (i : ℕ) (y : A) → i < length xs → y ≡ get_or xs i y → ((x : A) → Contains (take i xs) x → P x) → P y → (x : A) → Contains (take (i + 1) xs) x → P x
one_more P xs i y inside here before now x h =
    elim (in-append x (take i xs) (y ∷ []) (subst (IsIn x) (take_more xs i y inside ∙ ap (λ z. take i xs ++ z ∷ []) (sym here)) (in_from_contains (take (i + 1) xs) x h))) [
      | inl j ↦ before x (contains_from_in (take i xs) x j)
      | inr j ↦ elim j [ inl e ↦ subst P (sym e) now | inr k ↦ absurd k ]
    ]
