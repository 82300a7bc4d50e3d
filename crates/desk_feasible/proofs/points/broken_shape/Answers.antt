use Rattle.desk_feasible.proofs.Trees.{group_tree}
use Rattle.desk_feasible.proofs.points.broken_shape.Goals as goal

pub bad_leaf-requires : goal.bad_leaf-requires
bad_leaf-requires c = group_tree c.args.tables.now c.args.group.now c.requires.formed c.requires.there

pub returns-in-Some : goal.returns-in-Some
returns-in-Some c = (c.requires.grid, rw c.in-Some.is at c.bad_leaf.ensures)

pub broken_leaf-requires-clause-shape : goal.broken_leaf-requires-clause-shape
broken_leaf-requires-clause-shape c = record { grid = c.requires.grid; pattern = rw c.in-None.is at c.bad_leaf.ensures }
