-- The tests that tell whether a position is live, in the order in which they are made.
use Rattle.std.specs.Prelude.{ℕ, ◌-◌, ◌%◌, Bool, true, false, not, nat_le, nat_lt, ◌==◌, ◌&&◌, List, [], ◌∷◌, is_none, length, take}
use Rattle.std.specs.List.{list_all, list_any}
use Rattle.std.specs.Option.{option_map_or}
use Rattle.desk_base.specs.declared.rows.tables.Tables.{Tables}
use Rattle.desk_base.specs.declared.rows.groups.GroupRow.{GroupRow}
use Rattle.desk_base.specs.declared.search.results.Position.{Position}
use Rattle.desk_base.specs.declared.search.results.Options.{Options}
use Rattle.desk_base.specs.meaning.Trees.{tree_of, patterns}
use Rattle.desk_base.specs.meaning.Picks.{choices_of, pattern_of, first_broken_same}
use Rattle.desk_base.specs.search.Listing.{serves, other_asks, asks_for}
use Rattle.desk_pages.specs.Rooms.{have_room}

-- the start is on the group's grid
abbrev pub is_on_grid : GroupRow → ℕ → Bool
is_on_grid g s = nat_le g.from s && nat_lt s g.to && ((s - g.from) % g.step == 0)

-- the start is within the options
abbrev pub is_within_options : Options → ℕ → Bool
is_within_options o s = option_map_or (λ m. nat_le m s) o.from true && option_map_or (λ m. nat_lt s m) o.to true

-- the lists are one
abbrev pub are_same_bits : List Bool → List Bool → Bool
are_same_bits [] [] = true
are_same_bits [] (q ∷ qs) = false
are_same_bits (p ∷ ps) [] = false
are_same_bits (true ∷ ps) (q ∷ qs) = q && are_same_bits ps qs
are_same_bits (false ∷ ps) (q ∷ qs) = not q && are_same_bits ps qs

-- p begins with q
abbrev pub begins : List Bool → List Bool → Bool
begins q p = are_same_bits (take (length q) p) q

-- a pattern of the group's tree begins with q
abbrev pub begins_pattern : GroupRow → List Bool → Bool
begins_pattern g q = list_any (begins q) (patterns (tree_of g.nodes))

-- the position passes each test
unfoldable pub is_live : Tables → GroupRow → Options → Position → Bool
is_live t g o p =
    is_on_grid g p.start
    && (is_within_options o p.start
    && (nat_le 1 (length p.picks)
    && (begins_pattern g (pattern_of p.picks)
    && (list_all (serves t g p.start) (choices_of 0 g.leaves p.picks)
    && (is_none (first_broken_same t p.start g.nodes g.leaves p.picks)
    && have_room t (other_asks t g) (asks_for g p.start p.picks))))))
