use Rattle.desk_base.proofs.tables.Sounds.{bookings_fit}
use Rattle.desk_base.proofs.laws.standing_bookings_fit.Goals as goal

pub returns : goal.returns
returns c = bookings_fit
