use Rattle.desk_base.proofs.searched.Prefixes.{prefix_live}
use Rattle.desk_base.proofs.laws.prefixes_live.Goals as goal

pub returns : goal.returns
returns c = prefix_live
