use Rattle.std.proofs.Common.{List, ap, ◌∙◌}
use Rattle.desk_base.specs.declared.rows.groups.Node.{Node}
use Rattle.desk_base.specs.meaning.Trees.{tree_of, leaf_count}
use Rattle.desk_base.proofs.meaning.Shapes.{leaves_from_rules}
use Rattle.desk_need.proofs.trees.tree.Tree.leaves.Goals as goal

pub returns : goal.returns
returns c = leaves_from_rules c.self.inside.nodes.now c.self.inside.leaves c.self.invariant ∙ ap (λ (ns : List Node). leaf_count (tree_of ns)) c.self.view_is
