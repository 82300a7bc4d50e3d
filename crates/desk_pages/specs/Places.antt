-- The places that a search looks at, in order: each start with each list of picks.
use Rattle.std.specs.Prelude.{ℕ, zero, suc, ◌-◌, List, [], ◌∷◌, ◌++◌, map, filter, flat_map, Option, Some, None}
use Rattle.std.specs.List.{range_with_len}
use Rattle.desk_base.specs.declared.rows.tables.Tables.{Tables}
use Rattle.desk_base.specs.declared.rows.groups.GroupRow.{GroupRow}
use Rattle.desk_base.specs.declared.search.results.Position.{Position}
use Rattle.desk_base.specs.declared.search.results.Options.{Options}
use Rattle.desk_base.specs.meaning.Trees.{tree_of, leaf_count}
use Rattle.desk_base.specs.search.Positions.{position_at}
use Rattle.desk_pages.specs.Tests.{is_live}

-- what a leaf may have as its pick
abbrev pub choices : Tables → List (Option ℕ)
choices t = map (λ x. Some x.id) t.resources ++ None ∷ []

-- each list of 1 to n of the choices, a list before its extensions
abbrev pub prefixes : List (Option ℕ) → ℕ → List (List (Option ℕ))
prefixes cs zero = []
prefixes cs (suc n) = flat_map (λ c. (c ∷ []) ∷ map (λ q. c ∷ q) (prefixes cs n)) cs

-- the places of one start
abbrev pub places_at : Tables → GroupRow → ℕ → List Position
places_at t g s = map (position_at s) (prefixes (choices t) (leaf_count (tree_of g.nodes)))

-- the places of all starts
abbrev pub places : Tables → GroupRow → List Position
places t g = flat_map (places_at t g) (range_with_len g.from (g.to - g.from))

-- the live ones of all places
unfoldable pub live_places : Tables → GroupRow → Options → List Position
live_places t g o = filter (is_live t g o) (places t g)
