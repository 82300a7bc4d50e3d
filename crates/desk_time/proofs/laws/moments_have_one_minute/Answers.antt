use Rattle.desk_time.proofs.MomentTexts.{moment_text-one_moment}
use Rattle.desk_time.proofs.laws.moments_have_one_minute.Goals as goal

pub returns : goal.returns
returns c = moment_text-one_moment
