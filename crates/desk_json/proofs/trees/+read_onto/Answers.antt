use Rattle.std.proofs.Common.{rules, inl, arith}
use Rattle.serde_json.specs.View.{view}
use Rattle.desk_json.proofs.TreeSteps.{no_level, one_level}
use Rattle.desk_json.proofs.trees.+read_onto.Goals as goal

pub returns-then-levels-eq0 : goal.returns-then-levels-eq0
returns-then-levels-eq0 n c = inl (no_level c.args.levels c.args.field c.args.tree (view c.args.node.now) (omega arith))

pub returns-in_err-tree : goal.returns-in_err-tree
returns-in_err-tree n c = rw (one_level c.args.levels c.args.field c.args.tree (view c.args.node.now) (omega arith)) (search rules)

pub loop-child-init : goal.loop-child-init
loop-child-init n c = rw (one_level c.args.levels c.args.field c.args.tree (view c.args.node.now) (omega arith)) (search rules)
