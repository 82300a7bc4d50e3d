use Rattle.desk_base.proofs.searched.Pages.{row_from_live}
use Rattle.desk_base.proofs.meaning.Shapes.{sound_group}
use Rattle.desk_base.proofs.laws.full_position_is_row.Goals as goal

pub returns : goal.returns
returns c = λ t g o p sound there live full. row_from_live t g o p (sound_group t g sound there) live full
