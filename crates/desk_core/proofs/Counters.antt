-- The counters of sound tables are within their limits.
use Rattle.std.proofs.Common.{◌≤◌, ◌&&◌, nat_le, refl, arith}
use Rattle.std.proofs.lemmas.Bool.Decides.{nat_tests}
use Rattle.std.specs.List.{list_all}
use Rattle.desk_base.specs.declared.rows.tables.Tables.{Tables}
use Rattle.desk_base.specs.declared.rows.tables.Table.TheVariants.{Booking}
use Rattle.desk_base.specs.declared.asked.rules.TableRule.TheVariants.{Count}
use Rattle.desk_base.specs.declared.rows.bookings.BookingRow.{BookingRow}
use Rattle.desk_base.specs.rows.Keys.{id_key}
use Rattle.desk_base.specs.rules.Limits.{revision_limit, serial_limit}
use Rattle.desk_base.specs.rules.Sound.{IsSound}
use Rattle.desk_base.proofs.lists.Tests.{and_left}

-- the revision is within its limit
pub revision_within : (t : Tables) → IsSound t → t.revision ≤ revision_limit
revision_within t s =
    let both = and_left (nat_le t.revision revision_limit && nat_le t.last_booking serial_limit) (list_all (λ (b : BookingRow). nat_le b.id t.last_booking) t.bookings) (s.keeps Count (id_key Booking 0) refl) in
    let within = and_left (nat_le t.revision revision_limit) (nat_le t.last_booking serial_limit) both in
    grind (arith, nat_tests)
