use Rattle.desk_time.proofs.DateTexts.{date_text-one_day}
use Rattle.desk_time.proofs.laws.dates_have_one_day.Goals as goal

pub returns : goal.returns
returns c = date_text-one_day
