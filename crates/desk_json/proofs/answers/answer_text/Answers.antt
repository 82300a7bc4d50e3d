use Rattle.std.proofs.Common.{◌≡◌, false, ◌∙◌}
use Rattle.serde_json.specs.Written.{has_float, compact_text}
use Rattle.desk_json.specs.Answers.{answer_text, answer_data}
use Rattle.desk_json.proofs.Floats.{answer_has_none}
use Rattle.desk_json.proofs.answers.answer_text.Goals as goal

pub returns-clause-text : goal.returns-clause-text
unfolding answer_text
returns-clause-text c =
    let written : has_float (answer_data c.args.answer.now) ≡ false → c.in_ok-to_vec.field-0.items ≡ compact_text (answer_data c.args.answer.now) =
    rw c.in_ok-value.ensures.value at c.in_ok-to_vec.ensures.text in
    c.from_vec.ensures ∙ written (answer_has_none c.args.answer.now)
