-- Picks that are placed from a start on, and laid on a view.
use Rattle.std.specs.Prelude.{ℕ, ◌≡◌, ◌≤◌, ◌-◌, List, [], ◌∷◌, ◌++◌, length, Option, Some, None, Contains, IsTrue}
use Rattle.std.specs.List.{list_all}
use Rattle.desk_base.specs.declared.rows.tables.Tables.{Tables}
use Rattle.desk_base.specs.declared.rows.groups.GroupRow.{GroupRow}
use Rattle.desk_base.specs.declared.search.results.Options.{Options}
use Rattle.desk_base.specs.meaning.Load.{Fits}
use Rattle.desk_base.specs.meaning.Picks.{choices_of, pattern_of, first_broken_same}
use Rattle.desk_base.specs.meaning.Trees.{tree_of}
use Rattle.desk_base.specs.rules.Sound.{AreWellFormed}
use Rattle.desk_base.specs.search.Listing.{IsOnGrid, IsWithinOptions, BeginsPattern, serves, other_asks, asks_for}
use Rattle.desk_need.specs.Cases.{Asked}
use Rattle.desk_load.specs.Views.{ViewParts}

-- the group stands in well-formed tables, in which the bookings of the other groups fit
pub record IsReady (a : Asked) : Type 0 where
  pub formed : AreWellFormed a.tables
  pub there : Contains a.tables.groups a.group
  pub fits : Fits a.tables (other_asks a.tables a.group)

-- picks from s on, as for a live position, but for grid and options
pub record IsPlaced (t : Tables) (g : GroupRow) (s : ℕ) (picks : List (Option ℕ)) : Type 0 where
  pub pattern : BeginsPattern (tree_of g.nodes) (pattern_of picks)
  pub serve : IsTrue (list_all (serves t g s) (choices_of 0 g.leaves picks))
  pub same : first_broken_same t s g.nodes g.leaves picks ≡ None
  pub fits : Fits t (other_asks t g ++ asks_for g s picks)

-- the points of a live position that hang on no booking
pub record IsInPlace (t : Tables) (g : GroupRow) (o : Options) (s : ℕ) (picks : List (Option ℕ)) : Type 0 where
  pub grid : IsOnGrid g s
  pub within : IsWithinOptions o s
  pub has_pick : 1 ≤ length picks
  pub pattern : BeginsPattern (tree_of g.nodes) (pattern_of picks)
  pub serve : IsTrue (list_all (serves t g s) (choices_of 0 g.leaves picks))
  pub same : first_broken_same t s g.nodes g.leaves picks ≡ None

-- the view is over the tables, without the group's own bookings, and the picks are laid on top: no more of them than there are leaves
pub record HasLaid (a : Asked) (v : ViewParts) (s : ℕ) (picks : List (Option ℕ)) : Type 0 where
  pub tables : v.tables ≡ a.tables
  pub without : v.without ≡ Some a.group.id
  pub overlay : v.overlay ≡ asks_for a.group s picks
  pub few : length picks ≤ length a.group.leaves

-- the steps that one look at a pick takes at most: a leaf that is left out takes none
abbrev pub steps_of : Option ℕ → ℕ
steps_of None = 0
steps_of (Some r) = 1

-- a first pick, how many minutes after a start its leaf begins, and a run of starts
pub record PickRun : Type 0 where
  pub asked : Asked
  pub pick : Option ℕ
  pub offset : ℕ
  pub first : ℕ
  pub last : ℕ

-- s is a start of the grid and of the run from which the pick alone keeps part-of-same
pub record IsPickStart (x : PickRun) (s : ℕ) : Type 0 where
  pub grid : IsOnGrid x.asked.group s
  pub low : x.first ≤ s
  pub high : s ≤ x.last
  pub same : first_broken_same x.asked.tables s x.asked.group.nodes x.asked.group.leaves (x.pick ∷ []) ≡ None

-- at m the leaf begins, from such a start on
abbrev pub BeginsAt : PickRun → ℕ → Type 0
BeginsAt x m = (x.offset ≤ m) × IsPickStart x (m - x.offset)
