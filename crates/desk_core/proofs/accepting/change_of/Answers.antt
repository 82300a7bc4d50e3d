use Rattle.std.proofs.Common.{arith}
use Rattle.desk_core.proofs.Counters.{revision_within}
use Rattle.desk_core.proofs.accepting.change_of.Goals as goal

pub overflow_add-result : goal.overflow_add-result
overflow_add-result c = let within = revision_within c.args.tables.now c.requires.sound in omega arith
