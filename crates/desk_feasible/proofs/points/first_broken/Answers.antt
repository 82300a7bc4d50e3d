use Rattle.desk_base.proofs.meaning.Shapes.{sound_group}
use Rattle.desk_feasible.proofs.points.first_broken.Goals as goal

pub is_on_grid-requires : goal.is_on_grid-requires
is_on_grid-requires c = (sound_group c.args.tables.now c.args.group.now c.requires.formed c.requires.there).step
