use Rattle.desk_base.proofs.meaning.Sums.{weight-append}
use Rattle.desk_base.proofs.laws.weights_add.Goals as goal

pub returns : goal.returns
returns c = weight-append
