-- The picks of a group's leaves: which are chosen, and whether parts that are to be of the same are.
use Rattle.std.specs.Prelude.{ℕ, ◌+◌, Bool, true, not, nat_lt, ◌&&◌, ◌==◌, List, [], ◌∷◌, map, take, drop, position, Option, Some, None, is_some, if◌then◌else◌}
use Rattle.std.specs.List.{list_any, list_all}
use Rattle.std.specs.Option.{option_map_or}
use Rattle.desk_base.specs.rows.Types.{Tables, Leaf, Node, Same, Window}
use Rattle.desk_base.specs.declared.rows.groups.Same.TheVariants.{None as NoSame, Unit as SameUnit, Site as SameSite, Crew as SameCrew}
use Rattle.desk_base.specs.meaning.Time.{leaf_time, minutes_of, within_horizon}
use Rattle.desk_base.specs.meaning.Capacity.{resource_of}
use Rattle.desk_base.specs.meaning.Load.{members, sort_of_kind, is_crew}
use Rattle.desk_base.specs.meaning.Trees.{leaf_bit}

-- a chosen leaf, its number and its resource
pub record Choice : Type 0 where
  pub number : ℕ
  pub leaf : Leaf
  pub resource : ℕ

-- the chosen of these leaves, which are numbered from i on
abbrev pub choices_of : ℕ → List Leaf → List (Option ℕ) → List Choice
choices_of i [] picks = []
choices_of i (l ∷ ls) [] = []
choices_of i (l ∷ ls) (None ∷ picks) = choices_of (i + 1) ls picks
choices_of i (l ∷ ls) (Some r ∷ picks) = record { number = i; leaf = l; resource = r } ∷ choices_of (i + 1) ls picks

-- for each pick whether its leaf is chosen
abbrev pub pattern_of : List (Option ℕ) → List Bool
pattern_of picks = map is_some picks

-- the unit of r
abbrev pub unit_of : Tables → ℕ → ℕ
unit_of t r = option_map_or (λ x. x.unit) (resource_of t r) 0

-- the site of r
abbrev pub site_of : Tables → ℕ → ℕ
site_of t r = option_map_or (λ x. x.site) (resource_of t r) 0

-- no two of the numbers differ
abbrev pub are_all_equal : List ℕ → Bool
are_all_equal [] = true
are_all_equal (x ∷ xs) = list_all (λ y. y == x) xs

-- r is a member of g at each minute of the window that is in the horizon
unfoldable pub is_member_throughout : Tables → ℕ → ℕ → Window → Bool
is_member_throughout t g r w = list_all (λ m. list_any (λ x. x == r) (members t g m)) (minutes_of (within_horizon w))

-- the chosen resource is in the crew g during its leaf's time
abbrev pub is_in_crew : Tables → ℕ → ℕ → Choice → Bool
is_in_crew t s g c = is_member_throughout t g c.resource (leaf_time c.leaf s)

-- some crew has all of the chosen, and nothing chosen needs none
abbrev pub have_one_crew : Tables → ℕ → List Choice → Bool
have_one_crew t s [] = true
have_one_crew t s (c ∷ cs) = list_any (λ x. is_crew (sort_of_kind x.kind) && list_all (is_in_crew t s x.id) (c ∷ cs)) t.resources

-- the chosen are of the same unit, site or crew
abbrev pub keeps : Same → Tables → ℕ → List Choice → Bool
keeps NoSame t s cs = true
keeps SameUnit t s cs = are_all_equal (map (λ c. unit_of t c.resource) cs)
keeps SameSite t s cs = are_all_equal (map (λ c. site_of t c.resource) cs)
keeps SameCrew t s cs = have_one_crew t s cs

-- how many leaf nodes there are up to the first node that is not deeper than d
abbrev pub leaves_under : ℕ → List Node → ℕ
leaves_under d [] = 0
leaves_under d (n ∷ ns) = if nat_lt d n.depth then leaf_bit n + leaves_under d ns else 0

-- a node, how many leaves come before it, and how many are under it
pub record Span : Type 0 where
  pub node : Node
  pub before : ℕ
  pub under : ℕ

-- each node with its leaves, where this many leaves come before the first
abbrev pub spans : ℕ → List Node → List Span
spans before [] = []
spans before (n ∷ ns) = record { node = n; before = before; under = leaves_under n.depth ns } ∷ spans (before + leaf_bit n) ns

-- what is chosen under a node is of the same as it asks
unfoldable pub keeps_same : Tables → ℕ → List Leaf → List (Option ℕ) → Span → Bool
keeps_same t s leaves picks x = keeps x.node.same t s (choices_of x.before (take x.under (drop x.before leaves)) (drop x.before picks))

-- the first of the nodes whose part-of-same is broken
abbrev pub first_broken_same : Tables → ℕ → List Node → List Leaf → List (Option ℕ) → Option ℕ
first_broken_same t s nodes leaves picks = position (λ x. not (keeps_same t s leaves picks x)) (spans 0 nodes)
