-- The tests of a position tell whether it is live.
use Rattle.std.proofs.Common.{◌≡◌, ℕ, zero, suc, ◌+◌, ◌<◌, ◌≤◌, Bool, true, false, ◌&&◌, List, [], ◌∷◌, ◌++◌, map, length, take, drop, Option, Some, None, cond, refl, sym, ap, ◌∙◌, subst, arith, IsTrue, is_none, nat_le, nat_lt, MatchOption}
use Rattle.std.proofs.lemmas.Bool.{false≢true}
use Rattle.std.proofs.lemmas.Bool.Decides.{nat_tests}
use Rattle.std.specs.Prelude.{Contains, ⊤}
use Rattle.std.specs.Bool.{Decides}
use Rattle.std.specs.List.{list_all}
use Rattle.std.specs.Option.{option_map_or, option_or}
use Rattle.desk_base.specs.meaning.Time.{leaf_time}
use Rattle.desk_base.specs.declared.rows.groups.GroupRow.{GroupRow}
use Rattle.desk_base.specs.declared.rows.groups.Leaf.{Leaf}
use Rattle.desk_base.specs.declared.rows.tables.Tables.{Tables}
use Rattle.desk_base.specs.declared.search.results.Position.{Position}
use Rattle.desk_base.specs.declared.search.results.Options.{Options}
use Rattle.desk_base.specs.declared.search.results.Ask.{Ask}
use Rattle.desk_base.specs.declared.asked.rules.LeafRule.{LeafRule}
use Rattle.desk_base.specs.declared.asked.rules.LeafRule.TheVariants.{Window as OutsideWindow}
use Rattle.desk_base.specs.meaning.Eligible.{first_broken_rule, first_broken_at, is_in_windows}
use Rattle.desk_base.specs.meaning.Load.{Fits}
use Rattle.desk_base.specs.meaning.Trees.{tree_of, patterns}
use Rattle.desk_base.specs.meaning.Picks.{Choice, choices_of, pattern_of, first_broken_same}
use Rattle.desk_base.specs.search.Listing.{IsOnGrid, serves, other_asks, ask_for, asks_for, IsWithinOptions, IsLive}
use Rattle.desk_pages.specs.Spaces.{IsInHorizon}
use Rattle.desk_pages.specs.Tests.{is_on_grid, is_within_options, are_same_bits, begins, begins_pattern, is_live}
use Rattle.desk_base.proofs.lists.Members.{in-map, contains_from_in, in_from_contains}
use Rattle.desk_base.proofs.lists.Tests.{and_left, and_right, and_both, list_all_at, list_any_at, list_any_from}
use Rattle.desk_pages.proofs.Fitting.{have_room_decides, AreInHorizon}

-- ---- starts and options

grid_decides : (g : GroupRow) (s : ℕ) → Decides (is_on_grid g s) (IsOnGrid g s)
grid_decides g s = (
  λ e. record { from = grind (arith, nat_tests); below = grind (arith, nat_tests); steps = grind (arith, nat_tests) },
  λ h. let a = h.from in let b = h.below in let c = h.steps in grind (arith, nat_tests),
)

from_decides : (o : Option ℕ) (s : ℕ) → Decides (option_map_or (λ m. nat_le m s) o true) (MatchOption o ⊤ (λ m. m ≤ s))
from_decides None s = (λ _. tt, λ _. refl)
from_decides (Some m) s = (λ e. grind (arith, nat_tests), λ e. grind (arith, nat_tests))

to_decides : (o : Option ℕ) (s : ℕ) → Decides (option_map_or (λ m. nat_lt s m) o true) (MatchOption o ⊤ (λ m. s < m))
to_decides None s = (λ _. tt, λ _. refl)
to_decides (Some m) s = (λ e. grind (arith, nat_tests), λ e. grind (arith, nat_tests))

pub and_decides : {P Q : Type 0} (a b : Bool) → Decides a P → Decides b Q → Decides (a && b) (P × Q)
and_decides a b p q = (λ e. (p.0 (and_left a b e), q.0 (and_right a b e)), λ h. and_both a b (p.1 h.0) (q.1 h.1))

pub options_decides : (o : Options) (s : ℕ) → Decides (is_within_options o s) (IsWithinOptions o s)
options_decides o s = and_decides _ _ (from_decides o.from s) (to_decides o.to s)

-- ---- patterns

pub same_bits_decides : (p q : List Bool) → Decides (are_same_bits p q) (p ≡ q)
same_bits_decides [] [] = (λ _. refl, λ _. refl)
same_bits_decides [] (q ∷ qs) = (λ e. absurd (false≢true e), λ e. cc)
same_bits_decides (p ∷ ps) [] = (λ e. absurd (false≢true e), λ e. cc)
same_bits_decides (true ∷ ps) (true ∷ qs) = let h = same_bits_decides ps qs in (λ e. ap (λ r. true ∷ r) (h.0 e), λ e. h.1 (cc))
same_bits_decides (true ∷ ps) (false ∷ qs) = (λ e. absurd (false≢true e), λ e. cc)
same_bits_decides (false ∷ ps) (true ∷ qs) = (λ e. absurd (false≢true e), λ e. cc)
same_bits_decides (false ∷ ps) (false ∷ qs) = let h = same_bits_decides ps qs in (λ e. ap (λ r. false ∷ r) (h.0 e), λ e. h.1 (cc))

take_drop : {A : Type 0} (n : ℕ) (xs : List A) → take n xs ++ drop n xs ≡ xs
take_drop zero xs = refl
take_drop (suc n) [] = refl
take_drop (suc n) (x ∷ xs) = ap (λ l. x ∷ l) (take_drop n xs)

take_front : {A : Type 0} (xs ys : List A) → take (length xs) (xs ++ ys) ≡ xs
take_front [] ys = refl
take_front (x ∷ xs) ys = ap (λ l. x ∷ l) (take_front xs ys)

pub begins_decides : (g : GroupRow) (q : List Bool) → Decides (begins_pattern g q) ((rest : List Bool) × Contains (patterns (tree_of g.nodes)) (q ++ rest))
begins_decides g q = (
  λ e. let h = list_any_at (begins q) (patterns (tree_of g.nodes)) e in
      let same = (same_bits_decides (take (length q) h.0) q).0 h.2 in
      (drop (length q) h.0, subst (Contains (patterns (tree_of g.nodes))) (sym (take_drop (length q) h.0) ∙ ap (λ l. l ++ drop (length q) h.0) same) (contains_from_in (patterns (tree_of g.nodes)) h.0 h.1)),
  λ h. list_any_from (begins q) (patterns (tree_of g.nodes)) (q ++ h.0) (in_from_contains (patterns (tree_of g.nodes)) (q ++ h.0) h.1) ((same_bits_decides (take (length q) (q ++ h.0)) q).1 (take_front q h.0)),
)

-- ---- chosen leaves and their times

or_none : (o : Option LeafRule) (b : Bool) → is_none (option_or o (cond b None (Some OutsideWindow))) ≡ true → (is_none o ≡ true) × (b ≡ true)
or_none None true e = (refl, refl)
or_none None false e = absurd (false≢true e)
or_none (Some r) b e = absurd (false≢true e)

-- a resource that serves breaks no rule, and its leaf lies inside its windows
pub served : (t : Tables) (g : GroupRow) (l : Leaf) (s r : ℕ) → is_none (first_broken_at t g l s r) ≡ true → (is_none (first_broken_rule t l r) ≡ true) × (is_in_windows g l s ≡ true)
served t g l s r e = or_none (first_broken_rule t l r) (is_in_windows g l s) e

pub leaf_end : (g : GroupRow) (l : Leaf) (s : ℕ) → is_in_windows g l s ≡ true → (leaf_time l s).to ≤ g.to
leaf_end g l s e =
    let h = and_right (nat_le g.from (s + l.offset)) (nat_le (s + l.offset + l.duration) g.to) (and_left (nat_le g.from (s + l.offset) && nat_le (s + l.offset + l.duration) g.to) _ e) in
    grind (arith, nat_tests)

pub asks_in_horizon : (t : Tables) (g : GroupRow) (s : ℕ) (cs : List Choice) → IsInHorizon g → g.from ≤ s → list_all (serves t g s) cs ≡ true → AreInHorizon (map (ask_for s) cs)
asks_in_horizon t g s cs h low e a i m from below =
    let c = in-map (ask_for s) a cs i in
    let l = leaf_end g c.0.leaf s (served t g c.0.leaf s c.0.resource (list_all_at (serves t g s) cs c.0 e c.1)).1 in
    let w = ap (λ (x : Ask). x.window.from) c.2 in
    let v = ap (λ (x : Ask). x.window.to) c.2 in
    (omega (arith, h.0), omega (arith, h.1))

-- ---- all tests

none_decides : (o : Option ℕ) → Decides (is_none o) (o ≡ None)
none_decides None = (λ _. refl, λ _. refl)
none_decides (Some x) = (λ e. absurd (false≢true e), λ e. cc)

pub true_decides : (b : Bool) → Decides b (IsTrue b)
true_decides b = (λ e. e, λ h. h)

-- the same, where the second test is read after the first alone
pub and_then_decides : {P Q : Type 0} (a b : Bool) → Decides a P → (a ≡ true → Decides b Q) → Decides (a && b) (P × Q)
and_then_decides a b p q = (λ e. let l = and_left a b e in (p.0 l, (q l).0 (and_right a b e)), λ h. let l = p.1 h.0 in and_both a b l ((q l).1 h.1))

some_decides : (n : ℕ) → Decides (nat_le 1 n) (1 ≤ n)
some_decides n = (λ e. grind (arith, nat_tests), λ e. grind (arith, nat_tests))

-- where the other bookings fit, the tests tell whether a position is live
pub live_decides : (t : Tables) (g : GroupRow) (o : Options) (p : Position) → Fits t (other_asks t g) → IsInHorizon g → Decides (is_live t g o p) (IsLive t g o p)
unfolding is_live
live_decides t g o p fits inside =
    let parts = and_then_decides _ _ (grid_decides g p.start) (λ e. and_decides _ _ (options_decides o p.start) (and_decides _ _ (some_decides (length p.picks)) (and_decides _ _ (begins_decides g (pattern_of p.picks))
    (and_then_decides _ _ (true_decides (list_all (serves t g p.start) (choices_of 0 g.leaves p.picks))) (λ f.
    (and_decides _ _ (none_decides (first_broken_same t p.start g.nodes g.leaves p.picks)) (have_room_decides t (other_asks t g) (asks_for g p.start p.picks) fits
    (asks_in_horizon t g p.start (choices_of 0 g.leaves p.picks) inside ((grid_decides g p.start).0 e).from f)))))))) in (
      λ e. let h = parts.0 e in record { grid = h.0; serve = h.1.1.1.1.0; same = h.1.1.1.1.1.0; fits = h.1.1.1.1.1.1; within = h.1.0; has_pick = h.1.1.0; pattern = h.1.1.1.0 },
      λ r. parts.1 (r.grid, (r.within, (r.has_pick, (r.pattern, (r.serve, (r.same, r.fits)))))),
    )
