use Rattle.std.proofs.Common.{arith}
use Rattle.desk_base.proofs.meaning.Shapes.{few_bookings}
use Rattle.desk_change.proofs.places.has_booking_places.Goals as goal

pub overflow_add-result : goal.overflow_add-result
overflow_add-result c = let few = few_bookings c.args.tables.now c.requires.sound in omega arith
