use Rattle.std.proofs.Common.{◌∙◌, ◌++◌, [], nat_lt, ap}
use Rattle.std.specs.Prelude.{filter}
use Rattle.desk_base.specs.declared.rows.bookings.BookingRow.{BookingRow}
use Rattle.desk_load.proofs.OneBooking.{around_without}
use Rattle.desk_load.proofs.by_number.ByNumber.without.Goals as goal

pub returns : goal.returns
returns c =
    let b = c.args.booking.now in
    let bs = c.args.self.now in
    c.in_ok-list.ensures
    ∙ ap (λ n. (filter (λ (y : BookingRow). nat_lt y.id n) bs ++ []) ++ filter (λ (y : BookingRow). nat_lt n y.id) bs) c.get.ensures.value
    ∙ around_without b bs
