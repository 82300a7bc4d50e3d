use Rattle.std.proofs.Common.{arith}
use Rattle.desk_json.proofs.DecimalLemmas.{id_of, no_id_above}
use Rattle.desk_json.proofs.decimals.read_id.Goals as goal

pub returns-then-number : goal.returns-then-number
returns-then-number g c = id_of c.args.text.now c.in_ok-number.number c.of.result (omega arith) c.in_ok-number.ensures c.of.ensures

pub returns-else-number : goal.returns-else-number
returns-else-number g c = no_id_above c.args.text.now c.in_ok-number.number (omega arith) c.in_ok-number.ensures (omega arith)
