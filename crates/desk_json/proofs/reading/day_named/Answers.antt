use Rattle.std.proofs.Common.{◌≡◌}
use Rattle.desk_json.proofs.DayReadings.{is_day_of}
use Rattle.desk_json.proofs.reading.day_named.Goals as goal

pub returns : goal.returns
returns c =
    let law = c.days_have_one_text.ensures in
    let text : c.as_bytes.result.now ≡ c.args.text.now = c.as_bytes.ensures.value in
    is_day_of law.reads law.only c.args.text.now _ (rw text at c.read_date.ensures)
