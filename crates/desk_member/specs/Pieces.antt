-- The pieces in which a booking counts.
use Rattle.std.specs.Prelude.{ℕ, ◌≡◌, ◌≢◌, ◌<◌, ◌≤◌, ◌==◌, ◌&&◌, List, [], All, IsSome, IsTrue, sum_by, if◌then◌else◌}
use Rattle.desk_base.specs.declared.rows.tables.Tables.{Tables}
use Rattle.desk_base.specs.declared.search.results.Ask.{Ask}
use Rattle.desk_base.specs.declared.values.minutes.Window.{Window}
use Rattle.desk_base.specs.meaning.Time.{covers}
use Rattle.desk_base.specs.meaning.Capacity.{resource_of}
use Rattle.desk_base.specs.meaning.Load.{load, members, sort_of, crew}
use Rattle.desk_member.specs.declared.items.Item.{Item}
use Rattle.desk_member.specs.declared.items.ItemsError.{ItemsError}
use Rattle.desk_member.specs.declared.items.ItemsError.TheVariants.{Empty, NoMemory}

-- what a piece takes of r at m: its effort, where it is of r and covers m
abbrev pub item_at : ℕ → ℕ → Item → ℕ
item_at r m i = if (i.resource == r) && covers i.from i.to m then i.effort else 0

-- what pieces take of r at m together
abbrev pub taken : List Item → ℕ → ℕ → ℕ
taken items r m = sum_by (item_at r m) items

-- a piece of a booking: of a resource that stands in the tables, not empty, within the booking's time, and with its effort
pub record IsItemOf (t : Tables) (a : Ask) (i : Item) : Type 0 where
  pub there : IsSome (resource_of t i.resource)
  pub begins : a.window.from ≤ i.from
  pub not_empty : i.from < i.to
  pub ends : i.to ≤ a.window.to
  pub effort : i.effort ≡ a.effort

-- the pieces of a booking: together they take of each resource at each minute what the booking takes of it
pub record AreItemsOf (t : Tables) (a : Ask) (items : List Item) : Type 0 where
  pub each : All (IsItemOf t a) items
  pub sums : (r m : ℕ) → taken items r m ≡ load t r m a

-- m is the least minute of the window at which the crew or the pool has no member
pub record IsGap (t : Tables) (g : ℕ) (w : Window) (m : ℕ) : Type 0 where
  pub inside : IsTrue (covers w.from w.to m)
  pub empty : members t g m ≡ []
  pub before : (k : ℕ) → w.from ≤ k → k < m → members t g k ≢ []

-- at each minute of the window the crew or the pool has a member
abbrev pub IsFilled : Tables → ℕ → Window → Type 0
IsFilled t g w = (k : ℕ) → w.from ≤ k → k < w.to → members t g k ≢ []

-- why a booking has no pieces: a crew has no member at this least minute of it, or memory was not found
abbrev pub IsItemsError : Tables → Ask → ItemsError → Type 0
IsItemsError t a (Empty m) = (sort_of t a.resource ≡ crew) × IsGap t a.resource a.window m
IsItemsError t a NoMemory = Unit {0}
