-- What is tested of a written list, so that it can be searched.
use Rattle.std.specs.Prelude.{ℕ, ◌≤◌, Bool, true, ◌&&◌, List, [], ◌∷◌, ◌++◌, length, Option, Contains, ◌≡◌}
use Rattle.std.specs.List.{list_all, slice_index_or}
use Rattle.std.specs.List.Sorted.{IsStrictlySortedBy}
use Rattle.std.specs.Ordering.{is_lt}
use Rattle.desk_base.specs.declared.search.results.Position.{Position}
use Rattle.desk_base.specs.search.Order.{pick_cmp}
use Rattle.desk_base.specs.search.Positions.{position_at, precedes}
use Rattle.tests_pruned.specs.declared.listed.Listed.{Listed}

-- each position comes before all behind it
abbrev pub rises : List Position → Bool
rises [] = true
rises (p ∷ ps) = list_all (precedes p) ps && rises ps

-- each pick comes before all behind it
abbrev pub picks_rise : List (Option ℕ) → Bool
picks_rise [] = true
picks_rise (x ∷ xs) = list_all (λ y. is_lt (pick_cmp x y)) xs && picks_rise xs

-- the position starts in time and has a pick for one leaf at least and not too many; without its last pick it is in the list, and that pick is a choice
pub record IsPlaced (s : Listed) (p : Position) : Type 0 where
  pub late : s.earliest ≤ p.start
  pub some : 1 ≤ length p.picks
  pub short : length p.picks ≤ s.leaves
  pub begun : (q : List (Option ℕ)) (x : Option ℕ) → p.picks ≡ q ++ x ∷ [] → 1 ≤ length q → Contains s.lives (position_at p.start q)
  pub offered : (q : List (Option ℕ)) (x : Option ℕ) → p.picks ≡ q ++ x ∷ [] → Contains (slice_index_or s.choices (length q) []) x

-- choices of a leaf rise, and are no more than the resources
pub record AreChoices (s : Listed) (cs : List (Option ℕ)) : Type 0 where
  pub rise : IsStrictlySortedBy pick_cmp cs
  pub few : length cs ≤ s.resources
