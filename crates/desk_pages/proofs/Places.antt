-- The places of a search rise, and each live position is one of them.
use Rattle.std.proofs.Common.{◌≡◌, ℕ, zero, suc, ◌+◌, ◌-◌, ◌≤◌, true, ◌==◌, List, [], ◌∷◌, ◌++◌, map, length, Option, Some, None, inl, inr, refl, sym, ap, ◌∙◌, subst, arith, is_some, is_none, length-append}
use Rattle.std.proofs.lemmas.Bool.{false≢true}
use Rattle.std.proofs.lemmas.Bool.Decides.{nat_tests}
use Rattle.std.proofs.lemmas.List.{length-map}
use Rattle.std.proofs.lemmas.List.Kept.{IsStrictlySortedBy-filter}
use Rattle.std.specs.List.{list_all, range_with_len, AllByRecursion}
use Rattle.std.specs.List.Sorted.{IsStrictlySortedBy}
use Rattle.std.specs.Option.{option_map_or}
use Rattle.std.specs.declared.cmp.Ordering.{Ordering}
use Rattle.std.specs.declared.cmp.Ordering.TheVariants.{Less}
use Rattle.std.specs.Ordering.{nat_cmp}
use Rattle.std.specs.Cmp.Lexicographic.{slice_cmp}
use Rattle.desk_base.specs.declared.rows.resources.ResourceRow.{ResourceRow}
use Rattle.desk_base.specs.declared.rows.groups.GroupRow.{GroupRow}
use Rattle.desk_base.specs.declared.rows.groups.Leaf.{Leaf}
use Rattle.desk_base.specs.declared.rows.tables.Tables.{Tables}
use Rattle.desk_base.specs.declared.search.results.Position.{Position}
use Rattle.desk_base.specs.declared.search.results.Options.{Options}
use Rattle.desk_base.specs.declared.asked.rules.LeafRule.TheVariants.{Kind}
use Rattle.desk_base.specs.rules.Rules.{first_broken}
use Rattle.desk_base.specs.meaning.Eligible.{first_broken_rule, first_broken_at, eligibility}
use Rattle.desk_base.specs.meaning.Load.{Fits}
use Rattle.desk_base.specs.meaning.Trees.{tree_of, patterns, leaf_count}
use Rattle.desk_base.specs.meaning.Picks.{choices_of, pattern_of}
use Rattle.desk_base.specs.search.Order.{pick_cmp, position_cmp}
use Rattle.desk_base.specs.search.Positions.{position_at}
use Rattle.desk_base.specs.search.Listing.{serves, other_asks, IsLive, IsLiveList}
use Rattle.desk_pages.specs.Tests.{is_live}
use Rattle.desk_pages.specs.Places.{choices, prefixes, places_at, places, live_places}
use Rattle.desk_base.proofs.lists.Members.{IsIn, all_from, all_at, in_left, in_right, in-map, in-flat_map, in_mapped, in_flat, in-filter, in_filtered, contains_from_in, in_from_contains, sorted-append, sorted-map, sorted-flat_map}
use Rattle.desk_base.proofs.lists.Tests.{and_left, and_right, find_cases, in_range, from_range}
use Rattle.desk_base.proofs.meaning.Patterns.{length-pattern, nat_cmp-same, nat_cmp-less, pick_cmp-same, then-same, then-less}
use Rattle.desk_pages.specs.Spaces.{IsInHorizon}
use Rattle.desk_pages.proofs.Tests.{served, live_decides}

-- ---- the choices and the starts rise

sorted-somes : (xs : List ResourceRow) → IsStrictlySortedBy nat_cmp (map (λ (x : ResourceRow). x.id) xs) → IsStrictlySortedBy pick_cmp (map (λ (x : ResourceRow). Some x.id) xs)
unfolding IsStrictlySortedBy
sorted-somes [] s = tt
sorted-somes (x ∷ xs) s = (
  all_from _ (map (λ (y : ResourceRow). Some y.id) xs) (λ p i. let h = in-map (λ (y : ResourceRow). Some y.id) p xs i in
      subst (λ q. pick_cmp (Some x.id) q ≡ Less) (sym h.2) (all_at (λ n. nat_cmp x.id n ≡ Less) (map (λ (y : ResourceRow). y.id) xs) h.0.id s.0 (in_mapped (λ (y : ResourceRow). y.id) h.0 xs h.1))),
  sorted-somes xs s.1,
)

before_none : (xs : List ResourceRow) (x y : Option ℕ) → IsIn x (map (λ (r : ResourceRow). Some r.id) xs) → IsIn y (None ∷ []) → pick_cmp x y ≡ Less
before_none xs x y i (inr j) = absurd j
before_none xs x y i (inl e) =
    let h = in-map (λ (r : ResourceRow). Some r.id) x xs i in
    subst (λ a. pick_cmp a y ≡ Less) (sym h.2) (subst (λ b. pick_cmp (Some h.0.id) b ≡ Less) (sym e) refl)

pub sorted-choices : (t : Tables) → IsStrictlySortedBy nat_cmp (map (λ x. x.id) t.resources) → IsStrictlySortedBy pick_cmp (choices t)
unfolding IsStrictlySortedBy
sorted-choices t h = sorted-append pick_cmp (map (λ x. Some x.id) t.resources) (None ∷ []) (sorted-somes t.resources h) (tt, tt) (before_none t.resources)

pub sorted-range : (a n : ℕ) → IsStrictlySortedBy nat_cmp (range_with_len a n)
unfolding IsStrictlySortedBy
sorted-range a zero = tt
sorted-range a (suc n) = (all_from _ (range_with_len (a + 1) n) (λ m i. nat_cmp-less a m (omega (arith, (from_range m (a + 1) n i).0))), sorted-range (a + 1) n)

-- ---- the places rise

abbrev begun : List (List (Option ℕ)) → Option ℕ → List (List (Option ℕ))
begun qs c = (c ∷ []) ∷ map (λ q. c ∷ q) qs

-- each starts with c
begins_with : (qs : List (List (Option ℕ))) (c : Option ℕ) (u : List (Option ℕ)) → IsIn u (begun qs c) → (x : List (Option ℕ)) × (u ≡ c ∷ x)
begins_with qs c u (inl e) = ([], e)
begins_with qs c u (inr i) = let h = in-map (λ q. c ∷ q) u qs i in (h.0, h.2)

-- none of the lists is empty
some_in : (cs : List (Option ℕ)) (n : ℕ) (u : List (Option ℕ)) → IsIn u (prefixes cs n) → (c : Option ℕ) × (x : List (Option ℕ)) × (u ≡ c ∷ x)
some_in cs zero u i = absurd i
some_in cs (suc n) u i = let h = in-flat_map (begun (prefixes cs n)) u cs i in let k = begins_with (prefixes cs n) h.0 u h.2 in (h.0, k.0, k.1)

alone_first : (cs : List (Option ℕ)) (n : ℕ) (c : Option ℕ) (u : List (Option ℕ)) → IsIn u (map (λ q. c ∷ q) (prefixes cs n)) → slice_cmp pick_cmp (c ∷ []) u ≡ Less
alone_first cs n c u i =
    let h = in-map (λ q. c ∷ q) u (prefixes cs n) i in
    let k = some_in cs n h.0 h.1 in
    subst (λ w. slice_cmp pick_cmp (c ∷ []) w ≡ Less) (sym h.2) (then-same (pick_cmp c c) (slice_cmp pick_cmp [] h.0) (pick_cmp-same c) (subst (λ w. slice_cmp pick_cmp [] w ≡ Less) (sym k.2) refl))

sorted-begun : (cs : List (Option ℕ)) (n : ℕ) → IsStrictlySortedBy (slice_cmp pick_cmp) (prefixes cs n) → (c : Option ℕ) → IsStrictlySortedBy (slice_cmp pick_cmp) (begun (prefixes cs n) c)
unfolding IsStrictlySortedBy
sorted-begun cs n s c = (
  all_from (λ u. slice_cmp pick_cmp (c ∷ []) u ≡ Less) (map (λ q. c ∷ q) (prefixes cs n)) (alone_first cs n c),
  sorted-map (slice_cmp pick_cmp) (slice_cmp pick_cmp) (λ q. c ∷ q) (λ x y h. then-same (pick_cmp c c) (slice_cmp pick_cmp x y) (pick_cmp-same c) h) (prefixes cs n) s,
)

nothing_sorted : {K : Type 0} (c : K → K → Ordering) → IsStrictlySortedBy c []
unfolding IsStrictlySortedBy
nothing_sorted c = tt

across : (c d : Option ℕ) (u v : List (Option ℕ)) → pick_cmp c d ≡ Less → (x : List (Option ℕ)) × (u ≡ c ∷ x) → (y : List (Option ℕ)) × (v ≡ d ∷ y) → slice_cmp pick_cmp u v ≡ Less
across c d u v h (x, e) (y, f) = subst (λ a. slice_cmp pick_cmp a v ≡ Less) (sym e) (subst (λ b. slice_cmp pick_cmp (c ∷ x) b ≡ Less) (sym f) (then-less (pick_cmp c d) (slice_cmp pick_cmp x y) h))

sorted-prefixes : (cs : List (Option ℕ)) → IsStrictlySortedBy pick_cmp cs → (n : ℕ) → IsStrictlySortedBy (slice_cmp pick_cmp) (prefixes cs n)
sorted-prefixes cs s zero = nothing_sorted (slice_cmp pick_cmp)
sorted-prefixes cs s (suc n) =
    sorted-flat_map (slice_cmp pick_cmp) pick_cmp (begun (prefixes cs n)) (sorted-begun cs n (sorted-prefixes cs s n))
    (λ c d u v h i j. across c d u v h (begins_with (prefixes cs n) c u i) (begins_with (prefixes cs n) d v j)) cs s

placed : (t : Tables) (g : GroupRow) (s r : ℕ) (u v : Position) → nat_cmp s r ≡ Less → IsIn u (places_at t g s) → IsIn v (places_at t g r) → position_cmp u v ≡ Less
placed t g s r u v l i j =
    let a = in-map (position_at s) u (prefixes (choices t) (leaf_count (tree_of g.nodes))) i in
    let b = in-map (position_at r) v (prefixes (choices t) (leaf_count (tree_of g.nodes))) j in
    subst (λ x. position_cmp x v ≡ Less) (sym a.2) (subst (λ y. position_cmp (position_at s a.0) y ≡ Less) (sym b.2) (then-less (nat_cmp s r) (slice_cmp pick_cmp a.0 b.0) l))

sorted-places : (t : Tables) (g : GroupRow) → IsStrictlySortedBy nat_cmp (map (λ x. x.id) t.resources) → IsStrictlySortedBy position_cmp (places t g)
sorted-places t g h =
    sorted-flat_map position_cmp nat_cmp (places_at t g)
    (λ s. sorted-map position_cmp (slice_cmp pick_cmp) (position_at s) (λ x y l. then-same (nat_cmp s s) (slice_cmp pick_cmp x y) (nat_cmp-same s) l) (prefixes (choices t) (leaf_count (tree_of g.nodes))) (sorted-prefixes (choices t) (sorted-choices t h) (leaf_count (tree_of g.nodes))))
    (placed t g) (range_with_len g.from (g.to - g.from)) (sorted-range g.from (g.to - g.from))

-- ---- each live position is a place

in-choices : (t : Tables) (leaf : Leaf) (r : ℕ) → is_none (first_broken_rule t leaf r) ≡ true → IsIn (Some r) (choices t)
unfolding first_broken_rule
in-choices t leaf r e =
    elim (find_cases (λ (x : ResourceRow). x.id == r) t.resources) [
      | inl n ↦ absurd (false≢true (sym (ap (λ x. is_none (option_map_or (λ y. first_broken (eligibility t leaf y)) x (Some Kind))) n) ∙ e))
      | inr (x, i, k, f) ↦
          let same : x.id ≡ r = grind (arith, nat_tests) in
          in_left (Some r) (map (λ (y : ResourceRow). Some y.id) t.resources) (None ∷ []) (subst (λ n. IsIn (Some n) (map (λ (y : ResourceRow). Some y.id) t.resources)) same (in_mapped (λ (y : ResourceRow). Some y.id) x t.resources i))
    ]

pub picks_in_choices : (t : Tables) (g : GroupRow) (s i : ℕ) (leaves : List Leaf) (picks : List (Option ℕ)) → length picks ≤ length leaves → list_all (serves t g s) (choices_of i leaves picks) ≡ true → AllByRecursion (λ q. IsIn q (choices t)) picks
picks_in_choices t g s i leaves [] n e = tt
picks_in_choices t g s i [] (q ∷ qs) n e = absurd (omega arith)
picks_in_choices t g s i (l ∷ ls) (None ∷ qs) n e = (in_right None (map (λ x. Some x.id) t.resources) (None ∷ []) (inl refl), picks_in_choices t g s (i + 1) ls qs (omega arith) e)
picks_in_choices t g s i (l ∷ ls) (Some r ∷ qs) n e = (
  in-choices t l r (served t g l s r (and_left (is_none (first_broken_at t g l s r)) (list_all (serves t g s) (choices_of (i + 1) ls qs)) e)).0,
  picks_in_choices t g s (i + 1) ls qs (omega arith) (and_right (is_none (first_broken_at t g l s r)) (list_all (serves t g s) (choices_of (i + 1) ls qs)) e),
)

in-prefixes : (cs : List (Option ℕ)) (n : ℕ) (qs : List (Option ℕ)) → 1 ≤ length qs → length qs ≤ n → AllByRecursion (λ q. IsIn q cs) qs → IsIn qs (prefixes cs n)
in-prefixes cs n [] some h a = absurd (omega arith)
in-prefixes cs zero (q ∷ qs) some h a = absurd (omega arith)
in-prefixes cs (suc n) (q ∷ []) some h a = in_flat (begun (prefixes cs n)) (q ∷ []) q cs a.0 (inl refl)
in-prefixes cs (suc n) (q ∷ r ∷ rs) some h a =
    in_flat (begun (prefixes cs n)) (q ∷ r ∷ rs) q cs a.0 (inr (in_mapped (λ p. q ∷ p) (r ∷ rs) (prefixes cs n) (in-prefixes cs n (r ∷ rs) (omega arith) (omega arith) a.1)))

in-places : (t : Tables) (g : GroupRow) (o : Options) (p : Position) → length g.leaves ≡ leaf_count (tree_of g.nodes) → IsLive t g o p → IsIn p (places t g)
in-places t g o p shape live =
    let grid = live.grid in
    let whole = length-pattern (tree_of g.nodes) (pattern_of p.picks ++ live.pattern.0) (in_from_contains (patterns (tree_of g.nodes)) (pattern_of p.picks ++ live.pattern.0) live.pattern.1) in
    let a = length-append (pattern_of p.picks) live.pattern.0 in
    let b = length-map p.picks is_some in
    let size : length p.picks ≤ leaf_count (tree_of g.nodes) = omega arith in
    let few : length p.picks ≤ length g.leaves = omega arith in
    let ok : list_all (serves t g p.start) (choices_of 0 g.leaves p.picks) ≡ true = live.serve in
    in_flat (places_at t g) p p.start (range_with_len g.from (g.to - g.from))
    (in_range p.start g.from (g.to - g.from) grid.from (omega (arith, grid.from, grid.below)))
    (in_mapped (position_at p.start) p.picks (prefixes (choices t) (leaf_count (tree_of g.nodes))) (in-prefixes (choices t) (leaf_count (tree_of g.nodes)) p.picks live.has_pick size (picks_in_choices t g p.start 0 g.leaves p.picks few ok)))

-- the computed list is the list of live positions
pub lives_are : (t : Tables) (g : GroupRow) (o : Options) → IsStrictlySortedBy nat_cmp (map (λ x. x.id) t.resources) → Fits t (other_asks t g) → IsInHorizon g → length g.leaves ≡ leaf_count (tree_of g.nodes) → IsLiveList t g o (live_places t g o)
unfolding live_places
lives_are t g o order fits inside shape = record {
  rising = IsStrictlySortedBy-filter position_cmp (is_live t g o) (places t g) (sorted-places t g order);
  sound = λ p c. (live_decides t g o p fits inside).0 (in-filter (is_live t g o) p (places t g) (in_from_contains (live_places t g o) p c)).1;
  complete = λ p r. contains_from_in (live_places t g o) p (in_filtered (is_live t g o) p (places t g) (in-places t g o p shape r) ((live_decides t g o p fits inside).1 r));
}
