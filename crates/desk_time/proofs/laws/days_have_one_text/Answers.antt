use Rattle.desk_time.proofs.DateTexts.{date_text-is, date_text-only}
use Rattle.desk_time.proofs.laws.days_have_one_text.Goals as goal

pub returns : goal.returns
returns c = record {
  reads = date_text-is;
  only = date_text-only;
}
