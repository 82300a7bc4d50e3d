-- Every prefix of a live position is live: fewer bookings weigh less, and fewer picks bind less.
use Rattle.std.proofs.Common.{◌≡◌, ℕ, zero, suc, ◌+◌, ◌≤◌, Bool, true, false, ◌&&◌, ◌==◌, List, [], ◌∷◌, ◌++◌, map, length, take, drop, Option, Some, None, refl, sym, ap, ◌∙◌, subst, arith, append_assoc, is_some, not}
use Rattle.std.proofs.lemmas.List.{map-append}
use Rattle.std.proofs.lemmas.List.Sums.{sum_by-append}
use Rattle.std.proofs.lemmas.List.Folds.{list_all-append}
use Rattle.std.specs.Prelude.{Contains}
use Rattle.std.specs.List.{list_all}
use Rattle.desk_base.specs.rows.Types.{ResourceRow, GroupRow, Node, Same, Leaf, Tables, Options, Ask}
use Rattle.desk_base.specs.declared.rows.groups.Same.TheVariants.{None as NoSame, Unit as SameUnit, Site as SameSite, Crew as SameCrew}
use Rattle.desk_base.specs.meaning.Trees.{tree_of, patterns}
use Rattle.desk_base.specs.meaning.Load.{sort_of_kind, is_crew}
use Rattle.desk_base.specs.meaning.Picks.{Choice, choices_of, pattern_of, unit_of, site_of, are_all_equal, is_in_crew, have_one_crew, keeps, Span, spans, keeps_same, first_broken_same}
use Rattle.desk_base.specs.search.Listing.{serves, other_asks, ask_for, asks_for, IsLive}
use Rattle.desk_base.specs.search.Positions.{position_at}
use Rattle.desk_base.proofs.lists.Tests.{and_left, and_right, and_both, list_any_at, list_any_from}
use Rattle.desk_base.proofs.lists.Places.{position_none}
use Rattle.desk_base.proofs.meaning.Fewer.{AreFewer, Fits-fewer}

-- ---- what is chosen first

-- what the first picks choose comes first
choices_prefix : (i : ℕ) (ls : List Leaf) (ps qs : List (Option ℕ)) → (rest : List Choice) × (choices_of i ls (ps ++ qs) ≡ choices_of i ls ps ++ rest)
choices_prefix i [] ps qs = ([], refl)
choices_prefix i (l ∷ ls) [] qs = (choices_of i (l ∷ ls) qs, refl)
choices_prefix i (l ∷ ls) (None ∷ ps) qs = choices_prefix (i + 1) ls ps qs
choices_prefix i (l ∷ ls) (Some r ∷ ps) qs = let h = choices_prefix (i + 1) ls ps qs in (h.0, ap (λ c. record { number = i; leaf = l; resource = r } ∷ c) h.1)

all_prefix : {A : Type 0} (p : A → Bool) (xs ys : List A) → list_all p (xs ++ ys) ≡ true → list_all p xs ≡ true
all_prefix p xs ys e = and_left (list_all p xs) (list_all p ys) (sym (list_all-append p xs ys) ∙ e)

equal_prefix : (xs ys : List ℕ) → are_all_equal (xs ++ ys) ≡ true → are_all_equal xs ≡ true
equal_prefix [] ys e = refl
equal_prefix (x ∷ xs) ys e = all_prefix (λ y. y == x) xs ys e

crew_prefix : (t : Tables) (s : ℕ) (xs ys : List Choice) → have_one_crew t s (xs ++ ys) ≡ true → have_one_crew t s xs ≡ true
crew_prefix t s [] ys e = refl
crew_prefix t s (c ∷ cs) ys e =
    let h = list_any_at (λ (x : ResourceRow). is_crew (sort_of_kind x.kind) && list_all (is_in_crew t s x.id) (c ∷ (cs ++ ys))) t.resources e in
    list_any_from (λ (x : ResourceRow). is_crew (sort_of_kind x.kind) && list_all (is_in_crew t s x.id) (c ∷ cs)) t.resources h.0 h.1
    (and_both (is_crew (sort_of_kind h.0.kind)) (list_all (is_in_crew t s h.0.id) (c ∷ cs)) (and_left (is_crew (sort_of_kind h.0.kind)) _ h.2)
    (all_prefix (is_in_crew t s h.0.id) (c ∷ cs) ys (and_right (is_crew (sort_of_kind h.0.kind)) (list_all (is_in_crew t s h.0.id) (c ∷ (cs ++ ys))) h.2)))

-- a part-of-same that holds of more choices holds of fewer
keeps_prefix : (k : Same) (t : Tables) (s : ℕ) (xs ys : List Choice) → keeps k t s (xs ++ ys) ≡ true → keeps k t s xs ≡ true
keeps_prefix NoSame t s xs ys e = refl
keeps_prefix SameUnit t s xs ys e = equal_prefix (map (λ c. unit_of t c.resource) xs) (map (λ c. unit_of t c.resource) ys) (sym (ap are_all_equal (map-append (λ (c : Choice). unit_of t c.resource) xs ys)) ∙ e)
keeps_prefix SameSite t s xs ys e = equal_prefix (map (λ c. site_of t c.resource) xs) (map (λ c. site_of t c.resource) ys) (sym (ap are_all_equal (map-append (λ (c : Choice). site_of t c.resource) xs ys)) ∙ e)
keeps_prefix SameCrew t s xs ys e = crew_prefix t s xs ys e

-- ---- parts-of-same

drop_prefix : (n : ℕ) (ps qs : List (Option ℕ)) → (rest : List (Option ℕ)) × (drop n (ps ++ qs) ≡ drop n ps ++ rest)
drop_prefix zero ps qs = (qs, refl)
drop_prefix (suc n) [] qs = (drop (suc n) qs, refl)
drop_prefix (suc n) (p ∷ ps) qs = drop_prefix n ps qs

kept_prefix : (t : Tables) (s : ℕ) (ls : List Leaf) (ps qs : List (Option ℕ)) (x : Span) → keeps_same t s ls (ps ++ qs) x ≡ true → keeps_same t s ls ps x ≡ true
unfolding keeps_same
kept_prefix t s ls ps qs x e =
    let under = take x.under (drop x.before ls) in
    let d = drop_prefix x.before ps qs in
    let c = choices_prefix x.before under (drop x.before ps) d.0 in
    keeps_prefix x.node.same t s (choices_of x.before under (drop x.before ps)) c.0 (sym (ap (λ p. keeps x.node.same t s (choices_of x.before under p)) d.1 ∙ ap (keeps x.node.same t s) c.1) ∙ e)

not_false : (b : Bool) → not b ≡ false → b ≡ true
not_false true e = refl
not_false false e = sym e

not_true : (b : Bool) → b ≡ true → not b ≡ false
not_true b e = ap not e

same_prefix : (t : Tables) (s : ℕ) (ns : List Node) (ls : List Leaf) (ps qs : List (Option ℕ)) → first_broken_same t s ns ls (ps ++ qs) ≡ None → first_broken_same t s ns ls ps ≡ None
same_prefix t s ns ls ps qs e =
    position_none (λ x. not (keeps_same t s ls (ps ++ qs) x)) (λ x. not (keeps_same t s ls ps x))
    (λ x f. not_true (keeps_same t s ls ps x) (kept_prefix t s ls ps qs x (not_false (keeps_same t s ls (ps ++ qs) x) f))) (spans 0 ns) e

-- ---- live positions

fewer_new : (others xs ys : List Ask) → AreFewer (others ++ xs) (others ++ (xs ++ ys))
fewer_new others xs ys f =
    let a = sum_by-append f others xs in
    let b = sum_by-append f others (xs ++ ys) in
    let c = sum_by-append f xs ys in omega arith

-- a position that a live position extends is live
pub prefix_live : (t : Tables) (g : GroupRow) (o : Options) (s : ℕ) (ps qs : List (Option ℕ)) → 1 ≤ length ps → IsLive t g o (position_at s (ps ++ qs)) → IsLive t g o (position_at s ps)
prefix_live t g o s ps qs some h =
    let c = choices_prefix 0 g.leaves ps qs in
    let new : asks_for g s (ps ++ qs) ≡ asks_for g s ps ++ map (ask_for s) c.0 = ap (map (ask_for s)) c.1 ∙ map-append (ask_for s) (choices_of 0 g.leaves ps) c.0 in
    record {
      grid = h.grid;
      serve = all_prefix (serves t g s) (choices_of 0 g.leaves ps) c.0 (sym (ap (list_all (serves t g s)) c.1) ∙ h.serve);
      same = same_prefix t s g.nodes g.leaves ps qs h.same;
      fits = Fits-fewer t (other_asks t g ++ asks_for g s ps) (other_asks t g ++ asks_for g s (ps ++ qs))
          (subst (λ l. AreFewer (other_asks t g ++ asks_for g s ps) (other_asks t g ++ l)) (sym new) (fewer_new (other_asks t g) (asks_for g s ps) (map (ask_for s) c.0))) h.fits;
      within = h.within;
      has_pick = some;
      pattern = (pattern_of qs ++ h.pattern.0, subst (Contains (patterns (tree_of g.nodes))) (ap (λ l. l ++ h.pattern.0) (map-append is_some ps qs) ∙ append_assoc (pattern_of ps) (pattern_of qs) h.pattern.0) h.pattern.1);
    }
