use Rattle.desk_kept.proofs.KeptTables.{tables_back}
use Rattle.desk_kept.proofs.laws.kept_tables_are_read_back.Goals as goal

pub returns : goal.returns
returns c = tables_back
