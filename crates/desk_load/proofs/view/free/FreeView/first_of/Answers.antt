use Rattle.std.proofs.Common.{sym, ap, ◌∙◌}
use Rattle.std.specs.Prelude.{option_map}
use Rattle.desk_base.specs.declared.rows.bookings.BookingRow.{BookingRow}
use Rattle.desk_load.specs.Shown.{counts_at}
use Rattle.desk_load.proofs.Least.{found_at, none_more}
use Rattle.desk_load.proofs.view.free.FreeView.first_of.Goals as goal

pub returns-then-counts_at : goal.returns-then-counts_at
returns-then-counts_at c = sym (ap (option_map (λ (b : BookingRow). b.id)) (found_at (counts_at c.args.self.now c.args.place.now) c.args.bookings.now c.loop-booking.booking-index c.booking-item.result c.loop-booking-test.true c.booking-item.is c.loop-booking.invariant (sym c.counts_at.ensures ∙ c.if-counts_at.true)))

pub loop-booking-preserved : goal.loop-booking-preserved
loop-booking-preserved c = none_more (counts_at c.args.self.now c.args.place.now) c.args.bookings.now c.loop-booking.booking-index c.booking-item.result c.loop-booking-test.true c.booking-item.is c.loop-booking.invariant (sym c.counts_at.ensures ∙ c.if-counts_at.false)
