use Rattle.desk_time.proofs.MomentTexts.{moment_text-is, moment_text-only}
use Rattle.desk_time.proofs.laws.minutes_have_one_text.Goals as goal

pub returns : goal.returns
returns c = record {
  reads = moment_text-is;
  only = moment_text-only;
}
