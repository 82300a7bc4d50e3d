-- Verdicts are determined: of a start and picks at most one holds.
use Rattle.std.proofs.Common.{◌≡◌, ℕ, ◌+◌, ◌<◌, Bool, true, List, [], ◌∷◌, ◌++◌, drop, Option, Some, None, is_some, unwrap_or, ◌⊎◌, inl, inr, refl, sym, ap, ◌∙◌, subst, arith, length-append, take-append-drop}
use Rattle.std.proofs.lemmas.Bool.{false≢true, cases_order}
use Rattle.std.specs.Prelude.{Contains, is_none, option_map}
use Rattle.std.specs.List.{list_all}
use Rattle.std.specs.Option.{option_or}
use Rattle.desk_base.specs.rows.Types.{Tables, GroupRow}
use Rattle.desk_base.specs.declared.asked.rules.LeafRule.{LeafRule}
use Rattle.desk_base.specs.declared.asked.rules.Verdict.{Verdict}
use Rattle.desk_base.specs.declared.asked.rules.Verdict.TheVariants.{Feasible, OffGrid, BadShape, NotEligible, NotSame, Unfit}
use Rattle.desk_base.specs.meaning.Trees.{Tree, tree_of, patterns}
use Rattle.desk_base.specs.meaning.Eligible.{first_broken_at}
use Rattle.desk_base.specs.meaning.Load.{Fits}
use Rattle.desk_base.specs.meaning.Picks.{Choice, choices_of, pattern_of, first_broken_same}
use Rattle.desk_base.specs.search.Listing.{IsOnGrid, serves, other_asks, asks_for}
use Rattle.desk_base.specs.search.Verdicts.{LacksPick, Strays, IsBadShape, Unserved, first_unserved, HasShape, IsVerdict}
use Rattle.desk_base.proofs.lists.Members.{in_from_contains}
use Rattle.desk_base.proofs.meaning.Patterns.{length-pattern}
use Rattle.desk_base.proofs.lists.Tests.{and_left, and_right}

-- what has a bad shape has no pattern
pattern_is_not_bad : (tree : Tree) (bits : List Bool) (j : ℕ) → Contains (patterns tree) bits → ¬ (LacksPick tree bits j ⊎ Strays tree bits j)
pattern_is_not_bad tree bits j whole (inl lacks) =
    let rest = lacks.1.0 ∷ lacks.1.1 in
    let long = length-pattern tree (bits ++ rest) (in_from_contains (patterns tree) (bits ++ rest) lacks.1.2) in
    let short = length-pattern tree bits (in_from_contains (patterns tree) bits whole) in
    let joined = length-append bits rest in
    absurd (omega (arith, long, short, joined))
pattern_is_not_bad tree bits j whole (inr strays) = strays.1 (drop (j + 1) bits, subst (λ p. Contains (patterns tree) p) (sym (take-append-drop (j + 1) bits)) whole)

-- the shape is first bad at one leaf
one_bad_leaf : (tree : Tree) (bits : List Bool) (i j : ℕ) → IsBadShape tree bits i → IsBadShape tree bits j → i ≡ j
one_bad_leaf tree bits i j h k = elim (cases_order i j) [ inl e ↦ e | inr apart ↦ elim apart [ inl l ↦ absurd (k.first i l h.broken) | inr l ↦ absurd (h.first j l k.broken) ] ]

unserved_step : (o : Option LeafRule) (c : Choice) (later : Option Unserved) → is_none o ≡ true → option_or (option_map (λ (broken : LeafRule). record { choice = c; rule = broken }) o) later ≡ later
unserved_step None c later e = refl
unserved_step (Some broken) c later e = absurd (false≢true e)

-- where each chosen resource serves its leaf there is no first that does not
all_served : (t : Tables) (g : GroupRow) (s : ℕ) (cs : List Choice) → list_all (serves t g s) cs ≡ true → first_unserved t g s cs ≡ None
all_served t g s [] e = refl
all_served t g s (c ∷ cs) e =
    unserved_step (first_broken_at t g c.leaf s c.resource) c (first_unserved t g s cs) (and_left (serves t g s c) (list_all (serves t g s) cs) e)
    ∙ all_served t g s cs (and_right (serves t g s c) (list_all (serves t g s) cs) e)

some_same : {A : Type 0} (x y : A) → Some x ≡ Some y → x ≡ y
some_same x y e = ap (λ o. unwrap_or o x) e

-- one leaf, resource and rule
one_unserved : (o : Option Unserved) (c d : Choice) (a b : LeafRule) (i j r q : ℕ) → o ≡ Some (record { choice = c; rule = a }) → o ≡ Some (record { choice = d; rule = b })
    → c.number ≡ i → c.resource ≡ r → d.number ≡ j → d.resource ≡ q → NotEligible i r a ≡ NotEligible j q b
one_unserved o c d a b i j r q e f ci cr dj dq =
    let same = ap (λ (u : Unserved). NotEligible u.choice.number u.choice.resource u.rule) (some_same (record { choice = c; rule = a }) (record { choice = d; rule = b }) (sym e ∙ f)) in
    cc

none_is_not_some : {A : Type 0} (o : Option A) (x : A) → o ≡ None → o ≡ Some x → ⊥
none_is_not_some o x e f = false≢true (ap is_some (sym e ∙ f))

-- the place of a verdict in the order in which the points are judged
abbrev place : Verdict → ℕ
place OffGrid = 0
place (BadShape j) = 1
place (NotEligible j r broken) = 2
place (NotSame node) = 3
place Unfit = 4
place Feasible = 5

module _ (t : Tables) (g : GroupRow) (s : ℕ) (picks : List (Option ℕ)) where
  -- what the verdicts after each point have in common
  on_grid : (v : Verdict) → IsVerdict t g s picks v → 0 < place v → IsOnGrid g s
  on_grid OffGrid h l = absurd (omega (arith, l))
  on_grid (BadShape j) h l = h.0
  on_grid (NotEligible j r broken) h l = h.0.grid
  on_grid (NotSame node) h l = h.0.shape.grid
  on_grid Unfit h l = h.0.shape.grid
  on_grid Feasible h l = h.grid

  has_shape : (v : Verdict) → IsVerdict t g s picks v → 1 < place v → HasShape g s picks
  has_shape OffGrid h l = absurd (omega (arith, l))
  has_shape (BadShape j) h l = absurd (omega (arith, l))
  has_shape (NotEligible j r broken) h l = h.0
  has_shape (NotSame node) h l = h.0.shape
  has_shape Unfit h l = h.0.shape
  has_shape Feasible h l = record { grid = h.grid; pattern = h.pattern }

  is_served : (v : Verdict) → IsVerdict t g s picks v → 2 < place v → list_all (serves t g s) (choices_of 0 g.leaves picks) ≡ true
  is_served OffGrid h l = absurd (omega (arith, l))
  is_served (BadShape j) h l = absurd (omega (arith, l))
  is_served (NotEligible j r broken) h l = absurd (omega (arith, l))
  is_served (NotSame node) h l = h.0.serve
  is_served Unfit h l = h.0.serve
  is_served Feasible h l = h.serve

  keeps_all_same : (v : Verdict) → IsVerdict t g s picks v → 3 < place v → first_broken_same t s g.nodes g.leaves picks ≡ None
  keeps_all_same OffGrid h l = absurd (omega (arith, l))
  keeps_all_same (BadShape j) h l = absurd (omega (arith, l))
  keeps_all_same (NotEligible j r broken) h l = absurd (omega (arith, l))
  keeps_all_same (NotSame node) h l = absurd (omega (arith, l))
  keeps_all_same Unfit h l = h.1
  keeps_all_same Feasible h l = h.same

  fits : (v : Verdict) → IsVerdict t g s picks v → 4 < place v → Fits t (other_asks t g ++ asks_for g s picks)
  fits OffGrid h l = absurd (omega (arith, l))
  fits (BadShape j) h l = absurd (omega (arith, l))
  fits (NotEligible j r broken) h l = absurd (omega (arith, l))
  fits (NotSame node) h l = absurd (omega (arith, l))
  fits Unfit h l = absurd (omega (arith, l))
  fits Feasible h l = h.fits

  below_last : (w : Verdict) → 5 < place w → ⊥
  below_last OffGrid l = omega (arith, l)
  below_last (BadShape j) l = omega (arith, l)
  below_last (NotEligible j r broken) l = omega (arith, l)
  below_last (NotSame node) l = omega (arith, l)
  below_last Unfit l = omega (arith, l)
  below_last Feasible l = omega (arith, l)

  -- what breaks a point is judged no later
  no_later : (v w : Verdict) → IsVerdict t g s picks v → IsVerdict t g s picks w → place v < place w → ⊥
  no_later OffGrid w h k l = h (on_grid w k l)
  no_later (BadShape j) w h k l = pattern_is_not_bad (tree_of g.nodes) (pattern_of picks) j (has_shape w k l).pattern h.1.broken
  no_later (NotEligible j r broken) w h k l = none_is_not_some _ _ (all_served t g s (choices_of 0 g.leaves picks) (is_served w k l)) h.1.1
  no_later (NotSame node) w h k l = none_is_not_some _ _ (keeps_all_same w k l) h.1
  no_later Unfit w h k l = h.2 (fits w k l)
  no_later Feasible w h k l = below_last w l

  -- two that break the same point are the same
  same_place : (v w : Verdict) → IsVerdict t g s picks v → IsVerdict t g s picks w → place v ≡ place w → v ≡ w
  same_place OffGrid OffGrid h k e = refl
  same_place (BadShape i) (BadShape j) h k e = ap BadShape (one_bad_leaf (tree_of g.nodes) (pattern_of picks) i j h.1 k.1)
  same_place (NotEligible i r a) (NotEligible j q b) h k e = one_unserved (first_unserved t g s (choices_of 0 g.leaves picks)) h.1.0 k.1.0 a b i j r q h.1.1 k.1.1 h.1.2 h.1.3 k.1.2 k.1.3
  same_place (NotSame i) (NotSame j) h k e = ap NotSame (some_same i j (sym h.1 ∙ k.1))
  same_place Unfit Unfit h k e = refl
  same_place Feasible Feasible h k e = refl
  same_place v w h k e = absurd (omega (arith, e))

  pub one_verdict : (v w : Verdict) → IsVerdict t g s picks v → IsVerdict t g s picks w → v ≡ w
  one_verdict v w h k = elim (cases_order (place v) (place w)) [ inl e ↦ same_place v w h k e | inr apart ↦ elim apart [ inl l ↦ absurd (no_later v w h k l) | inr l ↦ absurd (no_later w v k h l) ] ]
