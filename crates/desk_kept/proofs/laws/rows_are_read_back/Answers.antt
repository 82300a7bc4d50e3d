use Rattle.desk_kept.proofs.AllRows.{rows_back}
use Rattle.desk_kept.proofs.laws.rows_are_read_back.Goals as goal

pub returns : goal.returns
returns c = rows_back
