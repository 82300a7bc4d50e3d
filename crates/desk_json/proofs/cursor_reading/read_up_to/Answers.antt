use Rattle.std.proofs.Common.{◌≤◌, arith}
use Rattle.desk_json.proofs.DecimalLemmas.{no_other}
use Rattle.desk_json.proofs.cursor_reading.read_up_to.Goals as goal

pub returns-else-number-greatest : goal.returns-else-number-greatest
returns-else-number-greatest c =
    no_other c.args.text.now c.in-Some.number (omega arith) c.in-Some.ensures (λ n. n ≤ c.args.greatest) (λ x h. omega arith) (λ h. omega arith)
