use Rattle.std.proofs.Common.{List, map, ap, ◌∙◌}
use Rattle.std.specs.Prelude.{find, option_map}
use Rattle.desk_base.specs.declared.rows.bookings.BookingRow.{BookingRow}
use Rattle.desk_base.specs.declared.rows.tables.AnyRow.TheVariants.{Booking}
use Rattle.desk_base.specs.rows.Rows.{key_of}
use Rattle.desk_base.specs.asked.Refusing.{cites}
use Rattle.desk_change.proofs.Naming.{of_bookings}
use Rattle.desk_change.proofs.in_use.lists.citing_booking.Goals as goal

pub returns : goal.returns
returns c =
    let k = c.args.key.now in
    c.first_citing.ensures ∙ ap (λ (rows : List BookingRow). option_map key_of (find (cites k) (map Booking rows))) c.bookings_on.ensures ∙ of_bookings c.args.tables.now k c.requires.master
