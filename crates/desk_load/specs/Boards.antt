-- The weight and the room of a resource, minute by minute.
use Rattle.std.specs.Prelude.{◌≡◌, ℕ, map, Some, option_map, unwrap_or, pos}
use Rattle.desk_base.specs.declared.rows.tables.Tables.{Tables}
use Rattle.desk_base.specs.declared.values.minutes.Window.{Window}
use Rattle.desk_base.specs.meaning.Load.{weight, room, ask_of}
use Rattle.desk_spans.specs.Minutes.{EachMinute}
use Rattle.desk_spans.specs.Timeline.{Timeline, end_of, value_at}
use Rattle.desk_load.specs.declared.view.boards.Measure.{Measure}
use Rattle.desk_load.specs.declared.view.boards.Measure.TheVariants.{Weight, Room}

-- what is measured of r at m: the weight of the standing bookings, or the room, where it is bounded
abbrev pub measured : Measure → Tables → ℕ → ℕ → ℕ
measured Weight t r m = weight t (map ask_of t.bookings) r m
measured Room t r m = unwrap_or (room t r m) 0

-- over the window the room of r is bounded, and the values are that room
pub record IsRoomOver (t : Tables) (r : ℕ) (w : Window) (p : Timeline) : Type 0 where
  pub begin : p.from ≡ w.from
  pub end : end_of p ≡ w.to
  pub room_at : EachMinute w.from w.to (λ m. option_map pos (room t r m) ≡ Some (value_at p m))
