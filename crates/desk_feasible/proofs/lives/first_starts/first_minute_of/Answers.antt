use Rattle.std.proofs.Common.{arith}
use Rattle.desk_base.proofs.meaning.Shapes.{sound_group}
use Rattle.desk_feasible.proofs.lives.first_starts.first_minute_of.Goals as goal

pub leaf_at-leaf-requires : goal.leaf_at-leaf-requires
leaf_at-leaf-requires g c = omega (arith, (sound_group c.args.case.now.tables c.args.case.now.group c.requires.ready.formed c.requires.ready.there).some)
