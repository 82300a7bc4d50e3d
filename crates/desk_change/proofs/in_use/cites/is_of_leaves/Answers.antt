use Rattle.std.proofs.Common.{◌∙◌}
use Rattle.desk_base.specs.rows.Rows.{leaf_citations}
use Rattle.desk_base.specs.asked.Refusing.{is_key}
use Rattle.desk_change.proofs.Naming.{any_flat}
use Rattle.desk_change.proofs.in_use.cites.is_of_leaves.Goals as goal

pub returns : goal.returns
returns c = c.is_of_some_leaf.ensures ∙ any_flat (is_key c.args.key.now) leaf_citations c.args.leaves.now
