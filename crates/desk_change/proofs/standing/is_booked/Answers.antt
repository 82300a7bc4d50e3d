use Rattle.std.proofs.Common.{◌==◌, not, length, ap, ◌∙◌}
use Rattle.std.specs.Prelude.{List}
use Rattle.desk_base.specs.declared.rows.bookings.BookingRow.{BookingRow}
use Rattle.desk_need.proofs.Finds.{any_some}
use Rattle.desk_change.proofs.standing.is_booked.Goals as goal

pub returns : goal.returns
returns c t w i =
    ap not c.is_empty.ensures ∙ ap (λ (l : List BookingRow). not (length l == 0)) (c.bookings_of-own.ensures t w i)
    ∙ any_some (λ (b : BookingRow). b.group == c.args.group) t.bookings
