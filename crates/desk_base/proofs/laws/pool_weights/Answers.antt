use Rattle.desk_base.proofs.meaning.Pools.{pool_weights}
use Rattle.desk_base.proofs.laws.pool_weights.Goals as goal

pub returns : goal.returns
returns c = pool_weights
