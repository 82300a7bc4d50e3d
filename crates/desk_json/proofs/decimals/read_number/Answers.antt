use Rattle.std.proofs.Common.{◌≡◌, true}
use Rattle.desk_json.specs.Decimals.{IsPadded}
use Rattle.desk_json.proofs.DecimalLemmas.{decimal_not_padded, decimal_is_text, parse_exact}
use Rattle.desk_json.proofs.decimals.read_number.Goals as goal

pub returns-then-is_padded : goal.returns-then-is_padded
returns-then-is_padded c = λ n small e. decimal_not_padded c.args.text.now n small e (c.is_padded.ensures.0 c.if-is_padded.true)

pub returns-in-Ok : goal.returns-in-Ok
returns-in-Ok c =
    let bare : ¬ (IsPadded c.args.text.now) = λ p. let is : c.is_padded.result ≡ true = c.is_padded.ensures.1 p in cc in
    rw c.ok.ensures.value (parse_exact c.args.text.now c.parse.result bare (rw c.in-Ok.ensures.cases.0 at c.parse.ensures.value.0))

pub returns-in-Err : goal.returns-in-Err
returns-in-Err c = λ n small e. c.in-Err.ensures.cases.0 (decimal_is_text c.args.text.now n small e)
