use Rattle.desk_base.proofs.meaning.Fewer.{Fits-others}
use Rattle.desk_base.proofs.tables.Sounds.{keys_rise, well_formed, bookings_fit}
use Rattle.desk_core.proofs.GroupsThere.{found_group}
use Rattle.desk_core.proofs.changing.refused_booking.Goals as goal

pub group-requires : goal.group-requires
group-requires c table = keys_rise c.args.view.now.tables table c.requires.sound

pub place_refusal-requires-clause-formed : goal.place_refusal-requires-clause-formed
place_refusal-requires-clause-formed c = well_formed c.args.view.now.tables c.requires.sound

pub place_refusal-requires-clause-there : goal.place_refusal-requires-clause-there
place_refusal-requires-clause-there c = found_group c.args.view.now.tables c.args.group c.in-Some.row.now c.in-Some.ensures

pub place_refusal-requires-clause-fits : goal.place_refusal-requires-clause-fits
place_refusal-requires-clause-fits c = Fits-others c.args.view.now.tables c.in-Some.row.now (bookings_fit c.args.view.now.tables c.requires.sound)
