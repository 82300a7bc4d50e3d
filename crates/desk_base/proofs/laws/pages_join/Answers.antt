use Rattle.desk_base.proofs.searched.Pages.{pages_join}
use Rattle.desk_base.proofs.meaning.Shapes.{sound_group}
use Rattle.desk_base.proofs.laws.pages_join.Goals as goal

pub returns : goal.returns
returns c = λ t g o pages listing sound there. pages_join t g o pages listing (sound_group t g sound there)
