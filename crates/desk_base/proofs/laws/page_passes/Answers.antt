use Rattle.desk_base.proofs.searched.Passed.{page_passes}
use Rattle.desk_base.proofs.laws.page_passes.Goals as goal

pub returns : goal.returns
returns c = page_passes
