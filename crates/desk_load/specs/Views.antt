-- What stands in a view, and whether a booking more has room.
use Rattle.std.specs.Prelude.{ℕ, ◌≡◌, ◌+◌, ◌≤◌, ◌<◌, Bool, true, false, not, ◌==◌, List, [], ◌∷◌, ◌++◌, map, filter, Option, Some, None}
use Rattle.desk_base.specs.declared.rows.tables.Tables.{Tables}
use Rattle.desk_base.specs.declared.rows.bookings.BookingRow.{BookingRow}
use Rattle.desk_base.specs.declared.search.results.Ask.{Ask}
use Rattle.desk_base.specs.meaning.Load.{counts, ask_of, IsWithinRoom}
use Rattle.desk_spans.specs.Minutes.{EachMinute}
use Rattle.desk_load.specs.declared.view.demand.Demand.{Demand}
use Rattle.desk_load.specs.declared.view.probe.Probe.{Probe}
use Rattle.desk_load.specs.declared.view.probe.Probe.TheVariants.{Free, Short}

-- the tables, the group whose bookings are left out, and the bookings that are laid on top
pub record ViewParts : Type 0 where
  pub tables : Tables
  pub without : Option ℕ
  pub overlay : List Ask

-- the booking is one of the group, if there is one
abbrev pub is_own : Option ℕ → BookingRow → Bool
is_own None b = false
is_own (Some g) b = b.group == g

-- the bookings of the group
abbrev pub own_asks : Tables → Option ℕ → List Ask
own_asks t without = map ask_of (filter (is_own without) t.bookings)

-- the bookings of all others
abbrev pub other_asks : Tables → Option ℕ → List Ask
other_asks t without = map ask_of (filter (λ b. not (is_own without b)) t.bookings)

-- what stands in the view: the bookings of others, and the overlay
abbrev pub standing : ViewParts → List Ask
standing v = other_asks v.tables v.without ++ v.overlay

-- what a booking demands at each of its minutes
abbrev pub demand_of : Ask → Demand
demand_of a = record { resource = a.resource; effort = a.effort }

-- so much effort of a resource, from one minute on and before another
abbrev pub demand_over : Demand → ℕ → ℕ → Ask
demand_over d from to = record { resource = d.resource; window = record { from = from; to = to }; effort = d.effort }

-- the same at one minute
abbrev pub demand_at : Demand → ℕ → Ask
demand_at d m = demand_over d m (m + 1)

-- with the booking on top r is within its room at m, where the booking counts there
abbrev pub HasRoomOn : ViewParts → Ask → ℕ → ℕ → Type 0
HasRoomOn v a m r = counts v.tables r m a ≡ true → IsWithinRoom v.tables (standing v ++ a ∷ []) r m

-- so it is at m for each resource
abbrev pub HasRoomAt : ViewParts → Ask → ℕ → Type 0
HasRoomAt v a m = (r : ℕ) → HasRoomOn v a m r

-- the booking has room at each of its minutes
abbrev pub IsFree : ViewParts → Ask → Type 0
IsFree v a = EachMinute a.window.from a.window.to (HasRoomAt v a)

-- at m the booking has no room on r, and has room on each lower resource
pub record IsShortOn (v : ViewParts) (a : Ask) (m r : ℕ) : Type 0 where
  pub short : HasRoomOn v a m r → ⊥
  pub lower : (q : ℕ) → q < r → HasRoomOn v a m q

-- what a probe tells: the booking is free, or this is the first of its minutes at which it has no room, and there the least resource
abbrev pub IsProbe : ViewParts → Ask → Probe → Type 0
IsProbe v a Free = IsFree v a
IsProbe v a (Short r m) = (a.window.from ≤ m) × (m < a.window.to) × IsShortOn v a m r × EachMinute a.window.from m (HasRoomAt v a)
