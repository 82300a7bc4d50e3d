-- Bookings that can stand, whether or not there is room for them.
use Rattle.std.specs.Prelude.{◌<◌, ◌≤◌, length, IsSome}
use Rattle.desk_base.specs.declared.rows.tables.Tables.{Tables}
use Rattle.desk_base.specs.declared.rows.bookings.BookingRow.{BookingRow}
use Rattle.desk_base.specs.meaning.Capacity.{resource_of}
use Rattle.desk_base.specs.asked.Groups.{group_of}
use Rattle.desk_base.specs.rules.Limits.{effort_limit}

-- a booking of a group and a resource that are there, not empty, of an effort that may be, where few bookings stand
pub record IsPlaced (t : Tables) (b : BookingRow) : Type 0 where
  pub group : IsSome (group_of t b.group)
  pub resource : IsSome (resource_of t b.resource)
  pub not_empty : b.from < b.to
  pub some : 1 ≤ b.effort
  pub light : b.effort ≤ effort_limit
  pub few : length t.bookings < 1000
