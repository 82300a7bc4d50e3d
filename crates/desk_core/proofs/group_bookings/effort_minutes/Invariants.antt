use Rattle.std.proofs.Common.{◌≡◌, ◌≤◌, ◌-◌, ◌*◌, ◌^◌, take}
use Rattle.desk_base.specs.rules.Limits.{first_minute, end_of_minutes}
use Rattle.desk_base.specs.asked.Groups.{effort_minutes}
use Rattle.desk_core.proofs.group_bookings.effort_minutes.Given as goal

abbrev pub invariant-loop-booking : goal.invariant-loop-booking
invariant-loop-booking l = (l.total ≡ effort_minutes (take l.booking-index l.bookings)) × (l.total ≤ l.booking-index * ((end_of_minutes - first_minute) * 2 ^ 32))
