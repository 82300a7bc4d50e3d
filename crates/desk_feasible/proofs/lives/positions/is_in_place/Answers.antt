use Rattle.std.proofs.Common.{ap, arith}
use Rattle.desk_base.specs.declared.rows.groups.GroupRow.{GroupRow}
use Rattle.desk_base.proofs.meaning.Shapes.{sound_group, few_leaves}
use Rattle.desk_base.proofs.tables.Sounds.{keys_in_order}
use Rattle.desk_feasible.proofs.lives.positions.is_in_place.Goals as goal

pub is_on_grid-requires : goal.is_on_grid-requires
is_on_grid-requires c = omega (arith, (sound_group c.args.case.now.tables c.args.case.now.group c.requires.formed c.requires.there).step, ap (λ (g : GroupRow). g.step) c.group.ensures)

pub all_serve-requires-clause-rise : goal.all_serve-requires-clause-rise
all_serve-requires-clause-rise c = λ table. keys_in_order c.args.case.now.tables table c.requires.formed.order

pub all_serve-requires-clause-few : goal.all_serve-requires-clause-few
all_serve-requires-clause-few c = omega (arith, few_leaves c.args.case.now.tables c.args.case.now.group c.requires.formed c.requires.there)
