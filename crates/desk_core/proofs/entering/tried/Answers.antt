use Rattle.desk_base.proofs.tables.Sounds.{keys_in_order}
use Rattle.desk_core.proofs.entering.tried.Goals as goal

pub prepare-requires : goal.prepare-requires
prepare-requires c = λ table. keys_in_order c.args.tables table c.requires.before.formed.order
