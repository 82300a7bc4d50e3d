use Rattle.desk_base.proofs.histories.Numbers.{numbers_rise}
use Rattle.desk_base.proofs.laws.booking_numbers_rise.Goals as goal

pub returns : goal.returns
returns c = numbers_rise
