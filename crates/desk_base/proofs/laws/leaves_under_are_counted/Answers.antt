use Rattle.desk_base.proofs.meaning.Unders.{under_is}
use Rattle.desk_base.proofs.laws.leaves_under_are_counted.Goals as goal

pub returns : goal.returns
returns c = under_is
