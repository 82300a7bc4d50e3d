-- How much bookings may ask for.
use Rattle.std.specs.Prelude.{Bool, nat_le, List, IsTrue}
use Rattle.std.specs.List.{list_all}
use Rattle.desk_base.specs.rows.Types.{BookingRow, Ask}
use Rattle.desk_base.specs.rules.Limits.{effort_limit}
use Rattle.desk_base.specs.meaning.Load.{ask_of}

-- it asks for at most the greatest effort
abbrev pub is_light : Ask → Bool
is_light a = nat_le a.effort effort_limit

-- so does each of them
abbrev pub AreLight : List Ask → Type 0
AreLight asks = IsTrue (list_all is_light asks)

-- so does each of these bookings
abbrev pub AreLightBookings : List BookingRow → Type 0
AreLightBookings bookings = IsTrue (list_all (λ b. is_light (ask_of b)) bookings)
