use Rattle.std.proofs.Common.{◌≡◌, ℕ, Option, Some, None, SomeIff, rules, ◌∙◌}
use Rattle.desk_time.specs.Limits.{IsMoment}
use Rattle.desk_time.specs.Moments.{IsMomentText}
use Rattle.desk_json.proofs.MomentReadings.{is_moment_of}
use Rattle.desk_json.proofs.reading.moment_named.Goals as goal

pub returns-in_err-minute : goal.returns-in_err-minute
returns-in_err-minute c =
    let law = c.minutes_have_one_text.ensures in
    let text : c.as_bytes.result.now ≡ c.args.text.now = c.as_bytes.ensures.value in
    c.from_residual.ensures ∙ is_moment_of law.reads law.only c.args.text.now None (rw text at c.in_err-minute.ensures)

made : (n : ℕ) (r : Option ℕ) → SomeIff r (IsMoment n) n → IsMoment n → r ≡ Some n
made n (Some m) h is = search rules
made n None h is = absurd (h is)

pub returns : goal.returns
returns c =
    let law = c.minutes_have_one_text.ensures in
    let text : c.as_bytes.result.now ≡ c.args.text.now = c.as_bytes.ensures.value in
    let is : IsMomentText c.args.text.now c.in_ok-minute.minute = rw text at c.in_ok-minute.ensures in
    made c.in_ok-minute.minute c.of.result c.of.ensures is.in_horizon ∙ is_moment_of law.reads law.only c.args.text.now (Some c.in_ok-minute.minute) is
