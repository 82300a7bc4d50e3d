use Rattle.std.proofs.Common.{length}
use Rattle.desk_core.proofs.new_bookings.+push_bookings.Given as goal

abbrev pub decreases-push_bookings : goal.decreases-push_bookings
decreases-push_bookings l = length l.leaves.now
