use Rattle.desk_calendar.proofs.LocalTimes.{local_times_agree}
use Rattle.desk_calendar.proofs.laws.local_times_agree.Goals as goal

pub returns : goal.returns
returns c = local_times_agree
