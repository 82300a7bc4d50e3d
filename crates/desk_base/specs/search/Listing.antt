-- Which rows are feasible, which positions are live, and the list of all of them.
use Rattle.std.specs.Prelude.{ℕ, ◌-◌, ◌%◌, ◌<◌, ◌≤◌, Bool, not, ◌&&◌, ◌==◌, nat_lt, List, ◌++◌, map, filter, length, Option, Some, None, is_none, ◌≡◌, Contains, IsTrue, MatchOption, ⊤}
use Rattle.std.specs.List.{list_all}
use Rattle.std.specs.Ordering.{is_lt}
use Rattle.desk_base.specs.rows.Types.{Tables, GroupRow, Found, Position, Options, Ask}
use Rattle.desk_base.specs.meaning.Time.{leaf_time}
use Rattle.desk_base.specs.meaning.Eligible.{first_broken_at}
use Rattle.desk_base.specs.meaning.Trees.{Tree, tree_of, patterns, leaf_count}
use Rattle.desk_base.specs.meaning.Load.{Fits, ask_of}
use Rattle.desk_base.specs.meaning.Picks.{Choice, choices_of, pattern_of, first_broken_same}
use Rattle.desk_base.specs.search.Order.{found_cmp, position_cmp, Enumerates}

-- a group as sound tables have it: a leaf for each leaf node of its tree, one at least, a step, and a window that is not empty
pub record IsSoundGroup (g : GroupRow) : Type 0 where
  pub leaves : length g.leaves ≡ leaf_count (tree_of g.nodes)
  pub some : 1 ≤ length g.leaves
  pub step : 1 ≤ g.step
  pub window : g.from < g.to

-- the group's start plus whole steps, below its end
pub record IsOnGrid (g : GroupRow) (s : ℕ) : Type 0 where
  pub from : g.from ≤ s
  pub below : s < g.to
  pub steps : (s - g.from) % g.step ≡ 0

-- the resource of a chosen leaf breaks none of its rules at s
abbrev pub serves : Tables → GroupRow → ℕ → Choice → Bool
serves t g s c = is_none (first_broken_at t g c.leaf s c.resource)

-- the standing bookings without the group's own
abbrev pub other_asks : Tables → GroupRow → List Ask
other_asks t g = map ask_of (filter (λ b. not (b.group == g.id)) t.bookings)

-- what a chosen leaf asks for from s on
abbrev pub ask_for : ℕ → Choice → Ask
ask_for s c = record { resource = c.resource; window = leaf_time c.leaf s; effort = c.leaf.effort }

-- what the picks ask for from s on
abbrev pub asks_for : GroupRow → ℕ → List (Option ℕ) → List Ask
asks_for g s picks = map (ask_for s) (choices_of 0 g.leaves picks)

-- the picks can be booked from s on, by five points: the start is on the grid, the picks have a pattern of the tree, each chosen resource serves its leaf,
-- each part-of-same is kept, and with the standing bookings of the other groups they fit
pub record IsFeasible (t : Tables) (g : GroupRow) (s : ℕ) (picks : List (Option ℕ)) : Type 0 where
  pub grid : IsOnGrid g s
  pub pattern : Contains (patterns (tree_of g.nodes)) (pattern_of picks)
  pub serve : IsTrue (list_all (serves t g s) (choices_of 0 g.leaves picks))
  pub same : first_broken_same t s g.nodes g.leaves picks ≡ None
  pub fits : Fits t (other_asks t g ++ asks_for g s picks)

-- the start lies within the search's options
abbrev pub IsWithinOptions : Options → ℕ → Type 0
IsWithinOptions o s = MatchOption o.from ⊤ (λ m. m ≤ s) × MatchOption o.to ⊤ (λ m. s < m)

-- a row of a search: it is feasible, and starts within the options
pub record IsRow (t : Tables) (g : GroupRow) (o : Options) (f : Found) : Type 0 where
  pub feasible : IsFeasible t g f.start f.picks
  pub within : IsWithinOptions o f.start

-- the rising list of all rows of a search
abbrev pub AreRows : Tables → GroupRow → Options → List Found → Type 0
AreRows t g o = Enumerates found_cmp (IsRow t g o)

-- how many of the rows have the start of f and come before it
abbrev pub rows_before : List Found → Found → ℕ
rows_before rows f = length (filter (λ e. (e.start == f.start) && is_lt (found_cmp e f)) rows)

-- what a search shows of its rows: all of them, or of each start the first `per`
abbrev pub shown_rows : Option ℕ → List Found → List Found
shown_rows None rows = rows
shown_rows (Some per) rows = filter (λ f. nat_lt (rows_before rows f) per) rows

-- the listing of a search: what it shows of its rows, rising
abbrev pub IsListing : Tables → GroupRow → Options → List Found → Type 0
IsListing t g o listing = (rows : List Found) × AreRows t g o rows × (listing ≡ shown_rows o.per rows)

-- a pattern of the tree begins with these bits
abbrev pub BeginsPattern : Tree → List Bool → Type 0
BeginsPattern tree bits = (rest : List Bool) × Contains (patterns tree) (bits ++ rest)

-- a position that a search passes: a start within the options, at least one pick, a pattern begun, and all else as for a feasible row
pub record IsLive (t : Tables) (g : GroupRow) (o : Options) (p : Position) : Type 0 where
  pub grid : IsOnGrid g p.start
  pub within : IsWithinOptions o p.start
  pub has_pick : 1 ≤ length p.picks
  pub pattern : BeginsPattern (tree_of g.nodes) (pattern_of p.picks)
  pub serve : IsTrue (list_all (serves t g p.start) (choices_of 0 g.leaves p.picks))
  pub same : first_broken_same t p.start g.nodes g.leaves p.picks ≡ None
  pub fits : Fits t (other_asks t g ++ asks_for g p.start p.picks)

-- the rising list of all live positions of a search
abbrev pub IsLiveList : Tables → GroupRow → Options → List Position → Type 0
IsLiveList t g o = Enumerates position_cmp (IsLive t g o)
