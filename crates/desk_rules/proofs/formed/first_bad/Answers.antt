use Rattle.desk_rules.proofs.WellFormed.{none_well}
use Rattle.desk_rules.proofs.formed.first_bad.Goals as goal

pub returns-clause-well_formed : goal.returns-clause-well_formed
returns-clause-well_formed c = none_well c.args.tables.now c.first_broken.result c.first_broken.ensures
