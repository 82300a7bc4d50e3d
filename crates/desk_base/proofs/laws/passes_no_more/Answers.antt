use Rattle.desk_base.proofs.searched.Passed.{passed_shortest}
use Rattle.desk_base.proofs.laws.passes_no_more.Goals as goal

pub returns : goal.returns
returns c = passed_shortest
