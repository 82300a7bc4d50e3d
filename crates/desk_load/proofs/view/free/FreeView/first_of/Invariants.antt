use Rattle.std.proofs.Common.{◌≡◌, None, take}
use Rattle.std.specs.Prelude.{find}
use Rattle.desk_load.specs.Shown.{counts_at}
use Rattle.desk_load.proofs.view.free.FreeView.first_of.Given as goal

abbrev pub invariant-loop-booking : goal.invariant-loop-booking
invariant-loop-booking l = find (counts_at l.self l.place) (take l.booking-index l.bookings) ≡ None
