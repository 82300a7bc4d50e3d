-- Where the standing bookings are above the room of one of some resources.
use Rattle.std.specs.Prelude.{ℕ, ◌+◌, ◌<◌, List, map, Option, Some, None, Contains}
use Rattle.desk_base.specs.declared.rows.tables.Tables.{Tables}
use Rattle.desk_base.specs.meaning.Time.{IsMinute}
use Rattle.desk_base.specs.meaning.Load.{IsWithinRoom, ask_of}
use Rattle.desk_base.specs.rules.Limits.{end_of_minutes}
use Rattle.desk_load.specs.declared.view.places.Place.{Place}

-- the standing bookings are within the room of r at m
abbrev pub BearsStanding : Tables → ℕ → ℕ → Type 0
BearsStanding t r m = IsWithinRoom t (map ask_of t.bookings) r m

-- at the place they are above the room: on the resources seen at no earlier minute, and at this one on no lower resource
pub record IsOverAmong (t : Tables) (seen : List ℕ) (p : Place) : Type 0 where
  pub minute : IsMinute p.minute
  pub over : BearsStanding t p.resource p.minute → ⊥
  pub sooner : (r m : ℕ) → Contains seen r → IsMinute m → m < p.minute → BearsStanding t r m
  pub lower : (r : ℕ) → Contains seen r → r < p.resource → BearsStanding t r p.minute

-- they are within the room of each resource seen, or this is the first place at which they are not
abbrev pub IsFirstAmong : Tables → List ℕ → Option Place → Type 0
IsFirstAmong t seen None = (r m : ℕ) → Contains seen r → IsMinute m → BearsStanding t r m
IsFirstAmong t seen (Some p) = IsOverAmong t seen p

-- the minute before which another place may still be the first: right behind the one that was found, or the end of the horizon
abbrev pub end_of_search : Option Place → ℕ
end_of_search None = end_of_minutes
end_of_search (Some p) = p.minute + 1
