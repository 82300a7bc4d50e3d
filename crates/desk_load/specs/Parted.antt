-- What an index consists of.
use Rattle.std.specs.Prelude.{List}
use Rattle.desk_base.specs.declared.rows.resources.MemberRow.{MemberRow}
use Rattle.desk_load.specs.declared.lists.BookingList.{BookingList}
use Rattle.desk_load.specs.declared.weights.Weight.{Weight}

-- the weights by resource, the bookings by resource and by group, and the memberships by member
pub record IndexParts : Type 0 where
  pub weights : List Weight
  pub standing : List BookingList
  pub booked : List BookingList
  pub members : List MemberRow
