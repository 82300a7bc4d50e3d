use Rattle.desk_base.proofs.searched.Pages.{page-same}
use Rattle.desk_base.proofs.laws.pages_agree.Goals as goal

pub returns : goal.returns
returns c = page-same
