use Rattle.desk_base.proofs.tables.Sounds.{well_formed}
use Rattle.desk_base.proofs.laws.sound_tables_are_well_formed.Goals as goal

pub returns : goal.returns
returns c = well_formed
