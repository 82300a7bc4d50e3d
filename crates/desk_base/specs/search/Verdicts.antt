-- Whether picks can be booked from a start, or the first point that they break.
use Rattle.std.specs.Prelude.{ℕ, ◌+◌, ◌<◌, Bool, List, [], ◌∷◌, ◌++◌, take, length, Option, Some, None, option_map, ◌≡◌, ◌⊎◌, Contains, IsTrue}
use Rattle.std.specs.List.{list_all}
use Rattle.std.specs.Option.{option_or}
use Rattle.desk_base.specs.rows.Types.{Tables, GroupRow}
use Rattle.desk_base.specs.declared.asked.rules.LeafRule.{LeafRule}
use Rattle.desk_base.specs.declared.asked.rules.Verdict.{Verdict}
use Rattle.desk_base.specs.declared.asked.rules.Verdict.TheVariants.{Feasible, OffGrid, BadShape, NotEligible, NotSame, Unfit}
use Rattle.desk_base.specs.meaning.Trees.{Tree, tree_of, patterns}
use Rattle.desk_base.specs.meaning.Eligible.{first_broken_at}
use Rattle.desk_base.specs.meaning.Load.{Fits}
use Rattle.desk_base.specs.meaning.Picks.{Choice, choices_of, pattern_of, first_broken_same}
use Rattle.desk_base.specs.search.Listing.{IsOnGrid, BeginsPattern, IsFeasible, serves, other_asks, asks_for}

-- there is no j-th pick, though a pattern goes on with one
abbrev pub LacksPick : Tree → List Bool → ℕ → Type 0
LacksPick tree bits j = (j ≡ length bits) × ((next : Bool) × (rest : List Bool) × Contains (patterns tree) (bits ++ next ∷ rest))

-- with the j-th pick they begin no pattern
abbrev pub Strays : Tree → List Bool → ℕ → Type 0
Strays tree bits j = (j < length bits) × ¬ (BeginsPattern tree (take (j + 1) bits))

-- j is the first leaf at which they lack a pick or stray
pub record IsBadShape (tree : Tree) (bits : List Bool) (j : ℕ) : Type 0 where
  pub broken : LacksPick tree bits j ⊎ Strays tree bits j
  pub first : (i : ℕ) → i < j → ¬ (LacksPick tree bits i ⊎ Strays tree bits i)

-- a chosen leaf, and the first rule that its resource breaks
pub record Unserved : Type 0 where
  pub choice : Choice
  pub rule : LeafRule

-- the first chosen leaf whose resource breaks one of its rules at s
abbrev pub first_unserved : Tables → GroupRow → ℕ → List Choice → Option Unserved
first_unserved t g s [] = None
first_unserved t g s (c ∷ cs) = option_or (option_map (λ rule. record { choice = c; rule = rule }) (first_broken_at t g c.leaf s c.resource)) (first_unserved t g s cs)

-- the start is on the grid, and the picks have one of the tree's patterns
pub record HasShape (g : GroupRow) (s : ℕ) (picks : List (Option ℕ)) : Type 0 where
  pub grid : IsOnGrid g s
  pub pattern : Contains (patterns (tree_of g.nodes)) (pattern_of picks)

-- besides, each chosen resource serves its leaf
pub record IsServed (t : Tables) (g : GroupRow) (s : ℕ) (picks : List (Option ℕ)) : Type 0 where
  pub shape : HasShape g s picks
  pub serve : IsTrue (list_all (serves t g s) (choices_of 0 g.leaves picks))

-- the points are judged in this order: grid, pattern, eligibility leaf by leaf, part-of-same node by node, and last whether they fit
abbrev pub IsVerdict : Tables → GroupRow → ℕ → List (Option ℕ) → Verdict → Type 0
IsVerdict t g s picks Feasible = IsFeasible t g s picks
IsVerdict t g s picks OffGrid = ¬ (IsOnGrid g s)
IsVerdict t g s picks (BadShape j) = IsOnGrid g s × IsBadShape (tree_of g.nodes) (pattern_of picks) j
IsVerdict t g s picks (NotEligible j r rule) =
    HasShape g s picks
    × ((c : Choice) × (first_unserved t g s (choices_of 0 g.leaves picks) ≡ Some (record { choice = c; rule = rule })) × (c.number ≡ j) × (c.resource ≡ r))
IsVerdict t g s picks (NotSame node) = IsServed t g s picks × (first_broken_same t s g.nodes g.leaves picks ≡ Some node)
IsVerdict t g s picks Unfit =
    IsServed t g s picks × (first_broken_same t s g.nodes g.leaves picks ≡ None)
    × ¬ (Fits t (other_asks t g ++ asks_for g s picks))
