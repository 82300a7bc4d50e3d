use Rattle.std.proofs.Common.{List, [], sym, subst}
use Rattle.desk_base.specs.declared.rows.bookings.BookingRow.{BookingRow}
use Rattle.desk_base.specs.rows.Ranges.{Rise}
use Rattle.desk_load.proofs.by_number.ByNumber.empty.Goals as goal

none_rise : Rise (λ (x : BookingRow). x.id) (λ x. 0) []
unfolding Rise
none_rise = tt

pub invariant_of-result : goal.invariant_of-result
invariant_of-result c = subst (λ (l : List BookingRow). Rise (λ (x : BookingRow). x.id) (λ x. 0) l) (sym c.new.ensures.items) none_rise
