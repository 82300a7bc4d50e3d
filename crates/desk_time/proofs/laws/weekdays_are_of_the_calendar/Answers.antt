use Rattle.std.proofs.Common.{arith, pos}
use Rattle.jiff_core.proofs.SignedLemmas.{signed_arith}
use Rattle.jiff_core.proofs.CalendarLemmas.{weekday_number-parts}
use Rattle.desk_time.proofs.laws.weekdays_are_of_the_calendar.Goals as goal

pub returns : goal.returns
returns c = λ day. omega (arith, signed_arith, weekday_number-parts (pos day))
