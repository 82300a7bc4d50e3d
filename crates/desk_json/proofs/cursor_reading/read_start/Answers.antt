use Rattle.std.proofs.Common.{arith}
use Rattle.desk_json.specs.CursorReading.{IsMoment}
use Rattle.desk_json.proofs.DecimalLemmas.{no_other}
use Rattle.desk_json.proofs.cursor_reading.read_start.Goals as goal

pub returns-then-number : goal.returns-then-number
returns-then-number c = no_other c.args.text.now c.in-Some.number (omega arith) c.in-Some.ensures IsMoment (λ x h. omega arith) (λ h. omega arith)

pub returns-in-None : goal.returns-in-None
returns-in-None c = no_other c.args.text.now c.in-Some.number (omega arith) c.in-Some.ensures IsMoment (λ x h. omega arith) c.in-None.ensures
