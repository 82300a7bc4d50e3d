use Rattle.std.proofs.Common.{arith}
use Rattle.desk_route.proofs.ValueLemmas.{no_revision}
use Rattle.desk_route.proofs.values.revision.Goals as goal

pub returns-else-number-le-REVISION_LIMIT : goal.returns-else-number-le-REVISION_LIMIT
returns-else-number-le-REVISION_LIMIT c = no_revision c.args.text.now c.in_ok-number.number c.in_ok-number.ensures (omega arith) (omega arith)
