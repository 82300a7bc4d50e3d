use Rattle.desk_base.proofs.tables.Sounds.{well_formed}
use Rattle.desk_core.proofs.effects.booked_for.Goals as goal

pub returns : goal.returns
returns c = c.bookings_of.ensures c.args.tables.now (well_formed c.args.tables.now c.requires.sound) c.requires.index
