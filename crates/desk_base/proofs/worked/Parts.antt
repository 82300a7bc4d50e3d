-- What the worked cases are made of, and the tests by which they compute rows and positions.
use Rattle.std.proofs.Common.{ℕ, zero, suc, ◌+◌, ◌*◌, ◌-◌, ◌%◌, List, [], ◌∷◌, ◌++◌, map, filter, length, Bool, true, false, not, Some, None, Option, nat_le, nat_lt, ◌&&◌, is_none}
use Rattle.std.specs.Prelude.{codes, flat_map, ◌==◌}
use Rattle.std.specs.List.{list_all, list_any}
use Rattle.std.specs.Option.{option_map_or}
use Rattle.desk_base.specs.rows.Types.{Tables, GroupRow, ResourceRow, MemberRow, Found, Ask, Node, NodeKind, Kind}
use Rattle.desk_base.specs.declared.rows.groups.Same.TheVariants.{None as NoSame}
use Rattle.desk_base.specs.meaning.Time.{minutes_of}
use Rattle.desk_base.specs.meaning.Load.{weight, room}
use Rattle.desk_base.specs.meaning.Trees.{tree_of, patterns}
use Rattle.desk_base.specs.meaning.Picks.{choices_of, pattern_of, first_broken_same}
use Rattle.desk_base.specs.search.Listing.{serves, other_asks, asks_for}
use Rattle.desk_base.specs.rows.Trial.{trial_resource}

-- a time of day in UTC on 2025-01-06, a Monday
abbrev pub monday : ℕ → ℕ → ℕ
monday hour minute = 28935360 + hour * 60 + minute

-- a resource beside those of the trial tables, on this calendar
abbrev pub plain_resource : ℕ → ℕ → ResourceRow
plain_resource id calendar = trial_resource id (codes "X") calendar

-- a crew or a pool
abbrev pub group_resource : ℕ → Kind → ResourceRow
group_resource id kind = record { id = id; name = codes "X"; kind = kind; calendar = None; unit = 1; site = 1 }

-- a membership on that Monday from one hour to another
abbrev pub member_from_to : ℕ → ℕ → ℕ → ℕ → MemberRow
member_from_to group member from to = record { group = group; member = member; from = monday from 0; to = monday to 0 }

-- a node without a part-of-same
abbrev pub node : ℕ → NodeKind → Node
node depth kind = record { depth = depth; kind = kind; same = NoSame }

-- a row
abbrev pub row : ℕ → List (Option ℕ) → Found
row start picks = record { start = start; picks = picks }

-- the first is a prefix of the second
abbrev pub are_first_bits : List Bool → List Bool → Bool
are_first_bits [] qs = true
are_first_bits (p ∷ ps) [] = false
are_first_bits (true ∷ ps) (q ∷ qs) = q && are_first_bits ps qs
are_first_bits (false ∷ ps) (q ∷ qs) = not q && are_first_bits ps qs

-- the picks begin a pattern of the group's tree
abbrev pub begin_pattern : GroupRow → List (Option ℕ) → Bool
begin_pattern g picks = list_any (are_first_bits (pattern_of picks)) (patterns (tree_of g.nodes))

-- all points of a live position but the last: the grid, the pattern, the rules of each chosen leaf, and each part-of-same
abbrev pub is_allowed : Tables → GroupRow → ℕ → List (Option ℕ) → Bool
is_allowed t g s picks =
    nat_le g.from s && nat_lt s g.to && ((s - g.from) % g.step == 0) && begin_pattern g picks && list_all (serves t g s) (choices_of 0 g.leaves picks)
    && is_none (first_broken_same t s g.nodes g.leaves picks)

-- at a resource and a minute the bookings are within the room
abbrev pub is_within_room : Tables → List Ask → ℕ → ℕ → Bool
is_within_room t asks r m = option_map_or (λ n. nat_le (weight t asks r m) n) (room t r m) true

-- the last point: with the standing bookings of other groups the new ones are within the room of each resource at each minute of one of them
abbrev pub has_room : Tables → GroupRow → ℕ → List (Option ℕ) → Bool
has_room t g s picks =
    list_all (λ (a : Ask). list_all (λ m. list_all (λ x. is_within_room t (other_asks t g ++ asks_for g s picks) x.id m) t.resources) (minutes_of a.window)) (asks_for g s picks)

-- what may be picked for a leaf, in the order of picks
abbrev pub picks_of_leaf : Tables → List (Option ℕ)
picks_of_leaf t = map (λ x. Some x.id) t.resources ++ None ∷ []

-- each list of n picks, in order
abbrev pub lists_of_picks : Tables → ℕ → List (List (Option ℕ))
lists_of_picks t zero = [] ∷ []
lists_of_picks t (suc n) = flat_map (λ pick. map (λ picks. pick ∷ picks) (lists_of_picks t n)) (picks_of_leaf t)

-- the live lists of n picks at a start, in order
abbrev pub live_at : Tables → GroupRow → ℕ → ℕ → List (List (Option ℕ))
live_at t g n s = filter (has_room t g s) (filter (is_allowed t g s) (lists_of_picks t n))

-- the rows at some starts, in order
abbrev pub rows_at : Tables → GroupRow → List ℕ → List Found
rows_at t g starts = flat_map (λ s. map (row s) (live_at t g (length g.leaves) s)) starts
