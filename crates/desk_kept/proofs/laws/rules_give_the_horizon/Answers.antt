use Rattle.desk_kept.proofs.RuleLaws.{horizon}
use Rattle.desk_kept.proofs.laws.rules_give_the_horizon.Goals as goal

pub returns : goal.returns
returns c = horizon
