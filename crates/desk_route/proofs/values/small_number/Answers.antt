use Rattle.std.proofs.Common.{arith}
use Rattle.desk_route.proofs.ValueLemmas.{no_number}
use Rattle.desk_route.proofs.values.small_number.Goals as goal

pub returns-else-number : goal.returns-else-number
returns-else-number c = no_number c.args.text.now c.in_ok-number.number c.in_ok-number.ensures (omega arith) (omega arith)
