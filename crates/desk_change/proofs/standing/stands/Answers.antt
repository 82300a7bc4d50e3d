use Rattle.desk_base.proofs.tables.Sounds.{well_formed}
use Rattle.desk_change.proofs.standing.stands.Goals as goal

pub returns : goal.returns
returns c = let t = c.args.tables.now in c.is_booked.ensures t (well_formed t c.requires.sound) c.requires.index
