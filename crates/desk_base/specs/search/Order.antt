-- The order of rows and positions: by start, then pick by pick, resource numbers rising and a leaf that is left out last.
use Rattle.std.specs.Prelude.{ℕ, List, ◌++◌, Option, Some, None, Contains, ◌≡◌}
use Rattle.std.specs.declared.cmp.Ordering.{Ordering}
use Rattle.std.specs.declared.cmp.Ordering.TheVariants.{Less, Equal, Greater}
use Rattle.std.specs.Ordering.{nat_cmp, ordering_then}
use Rattle.std.specs.Cmp.Lexicographic.{slice_cmp}
use Rattle.std.specs.List.Sorted.{IsStrictlySortedBy}
use Rattle.desk_base.specs.rows.Types.{Found, Position}

-- two picks of one leaf: resource numbers rise, and a leaf that is left out comes last
abbrev pub pick_cmp : Option ℕ → Option ℕ → Ordering
pick_cmp (Some a) (Some b) = nat_cmp a b
pick_cmp (Some a) None = Less
pick_cmp None (Some b) = Greater
pick_cmp None None = Equal

-- by start, then pick by pick; picks come before their extensions
abbrev pub start_picks_cmp : ℕ → List (Option ℕ) → ℕ → List (Option ℕ) → Ordering
start_picks_cmp s picks s' picks' = ordering_then (nat_cmp s s') (slice_cmp pick_cmp picks picks')

-- two rows
abbrev pub found_cmp : Found → Found → Ordering
found_cmp a b = start_picks_cmp a.start a.picks b.start b.picks

-- two positions
abbrev pub position_cmp : Position → Position → Ordering
position_cmp a b = start_picks_cmp a.start a.picks b.start b.picks

-- the list rises strictly, and its members are exactly those of which P holds
pub record Enumerates {X : Type 0} (cmp : X → X → Ordering) (P : X → Type 0) (xs : List X) : Type 0 where
  pub rising : IsStrictlySortedBy cmp xs
  pub sound : (x : X) → Contains xs x → P x
  pub complete : (x : X) → P x → Contains xs x

-- the first is a prefix of the second: it has the same start, and its picks are the first picks of the second
pub record Begins (first second : Position) : Type 0 where
  pub start : first.start ≡ second.start
  pub picks : (rest : List (Option ℕ)) × (second.picks ≡ first.picks ++ rest)
