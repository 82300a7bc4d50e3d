-- What a search of a group goes over.
use Rattle.std.specs.Prelude.{ℕ, ◌≡◌, ◌≤◌, ◌<◌, max, List, [], ◌∷◌, ◌++◌, map, length, get_or, slice_get, Option, Some, None}
use Rattle.std.specs.Option.{option_map_or}
use Rattle.desk_base.specs.declared.rows.tables.Tables.{Tables}
use Rattle.desk_base.specs.declared.rows.groups.GroupRow.{GroupRow}
use Rattle.desk_base.specs.declared.rows.groups.Leaf.{Leaf}
use Rattle.desk_base.specs.rules.Limits.{first_minute, end_of_minutes}
use Rattle.desk_base.specs.declared.search.results.Options.{Options}
use Rattle.desk_need.specs.Candidates.{AreCandidates}
use Rattle.desk_need.specs.Cases.{Asked}
use Rattle.desk_pruned.specs.Ways.{Ways}
use Rattle.desk_pages.specs.Places.{live_places}

-- the case, the options, and for each leaf what it may have as its pick
pub record SpaceParts : Type 0 where
  pub asked : Asked
  pub options : Options
  pub choices : List (List (Option ℕ))

-- the resources that break no rule of the leaf but for its windows, rising, and last to be left out
abbrev pub AreChoices : Tables → Leaf → List (Option ℕ) → Type 0
AreChoices t leaf xs = (candidates : List ℕ) × AreCandidates t leaf candidates × (xs ≡ map Some candidates ++ None ∷ [])

-- so it is for each of the first n leaves
pub record AreChoicesOf (t : Tables) (leaves : List Leaf) (n : ℕ) (choices : List (List (Option ℕ))) : Type 0 where
  pub size : length choices ≡ n
  pub each : (i : ℕ) (leaf : Leaf) → i < n → slice_get leaves i ≡ Some leaf → AreChoices t leaf (get_or choices i [])

-- the group's window lies in the horizon
abbrev pub IsInHorizon : GroupRow → Type 0
IsInHorizon g = (first_minute ≤ g.from) × (g.to ≤ end_of_minutes)

-- the later of the group's start and of the first start that the options let through
abbrev pub earliest : Asked → Options → ℕ
earliest a o = option_map_or (λ m. max a.group.from m) o.from a.group.from

-- the ways of a search: the live positions of the group
abbrev pub ways_of : SpaceParts → Ways
ways_of x = record {
  lives = live_places x.asked.tables x.asked.group x.options;
  earliest = earliest x.asked x.options;
  leaves = length x.asked.group.leaves;
  choices = λ i. get_or x.choices i [];
  resources = length x.asked.tables.resources;
}
