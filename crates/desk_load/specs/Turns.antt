-- One booking that comes or goes: what it does to weights and lists.
use Rattle.std.specs.Prelude.{◌≡◌, ℕ, ◌==◌, List, map, find, ℤ, pos, neg_ℤ, ◌+ℤ◌, if◌then◌else◌}
use Rattle.std.specs.List.{AllByRecursion}
use Rattle.std.specs.Option.{option_map_or}
use Rattle.desk_base.specs.declared.rows.tables.Tables.{Tables}
use Rattle.desk_base.specs.declared.rows.bookings.BookingRow.{BookingRow}
use Rattle.desk_base.specs.declared.rows.tables.AnyRow.TheVariants.{Booking}
use Rattle.desk_base.specs.rows.Rows.{key_of}
use Rattle.desk_base.specs.rows.Ranges.{owns}
use Rattle.desk_base.specs.rules.Limits.{first_minute, end_of_minutes}
use Rattle.desk_base.specs.meaning.Load.{load, ask_of}
use Rattle.desk_base.specs.changes.Changes.{with_one, without_one}
use Rattle.desk_spans.specs.Minutes.{EachMinute}
use Rattle.desk_spans.specs.Timeline.{end_of, value_at}
use Rattle.desk_load.specs.declared.weights.Weight.{Weight}
use Rattle.desk_load.specs.declared.lists.BookingList.{BookingList}
use Rattle.desk_load.specs.declared.changes.turns.Turn.{Turn}
use Rattle.desk_load.specs.declared.changes.turns.Turn.TheVariants.{Comes, Goes}
use Rattle.desk_load.specs.Parted.{IndexParts}

-- an effort as what a booking that comes adds, and one that goes takes away
abbrev pub turned : Turn → ℕ → ℤ
turned Comes n = pos n
turned Goes n = neg_ℤ (pos n)

-- the value at m of the weight under r; 0 where there is none
abbrev pub value_under : ℕ → ℕ → List Weight → ℤ
value_under r m ws = option_map_or (λ w. value_at w.weight m) (find (owns (λ w. w.resource) r) ws) (pos 0)

-- each weight goes over the horizon
abbrev pub AreWhole : List Weight → Type 0
AreWhole ws = AllByRecursion (λ w. (w.weight.from ≡ first_minute) × (end_of w.weight ≡ end_of_minutes)) ws

-- the new weights are of the same resources as the old and go over the horizon, and at each minute of it each has so much more
pub record AreRaised (more : ℕ → ℕ → ℤ) (old new : List Weight) : Type 0 where
  pub numbers : map (λ w. w.resource) new ≡ map (λ w. w.resource) old
  pub whole : AreWhole new
  pub values : (r : ℕ) → EachMinute first_minute end_of_minutes (λ m. value_under r m new ≡ value_under r m old +ℤ more r m)

-- bookings with one that comes, in the place of the one of its number, or without one that goes
abbrev pub listed : Turn → BookingRow → List BookingRow → List BookingRow
listed Comes b bookings = with_one (λ y. key_of (Booking y)) b bookings
listed Goes b bookings = without_one (λ y. key_of (Booking y)) (key_of (Booking b)) bookings

-- the list of a number with the booking that comes or without the one that goes, and the others as they are
abbrev pub relisted : Turn → ℕ → BookingRow → List BookingList → List BookingList
relisted turn number b lists = map {A = BookingList} {B = BookingList} (λ l. if l.number == number then record l { bookings = listed turn b l.bookings } else l) lists

-- the new index is the old with the booking that comes, or without the one that goes
pub record IsTurned (t : Tables) (turn : Turn) (b : BookingRow) (old new : IndexParts) : Type 0 where
  pub weights : AreRaised (λ r m. turned turn (load t r m (ask_of b))) old.weights new.weights
  pub standing : new.standing ≡ relisted turn b.resource b old.standing
  pub booked : new.booked ≡ relisted turn b.group b old.booked
  pub members : new.members ≡ old.members
