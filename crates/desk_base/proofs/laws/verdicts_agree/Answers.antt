use Rattle.desk_base.proofs.searched.VerdictLemmas.{one_verdict}
use Rattle.desk_base.proofs.laws.verdicts_agree.Goals as goal

pub returns : goal.returns
returns c = one_verdict
