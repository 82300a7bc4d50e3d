use Rattle.desk_base.proofs.searched.Pages.{full_rows}
use Rattle.desk_base.proofs.meaning.Shapes.{sound_group}
use Rattle.desk_base.proofs.laws.full_positions_are_rows.Goals as goal

pub returns : goal.returns
returns c = λ t g o ps sound there. full_rows t g o ps (sound_group t g sound there)
