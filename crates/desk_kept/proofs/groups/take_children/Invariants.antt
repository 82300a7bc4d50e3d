use Rattle.std.proofs.Common.{◌≡◌, ◌++◌, length, map}
use Rattle.serde_json.specs.View.{view}
use Rattle.desk_kept.specs.Groups.{children, siblings_after}
use Rattle.desk_kept.specs.Stacked.{stacked}
use Rattle.desk_kept.proofs.groups.take_children.Given as goal

abbrev pub decreases-loop-trees : goal.decreases-loop-trees
decreases-loop-trees l = length l.trees.items

abbrev pub invariant-loop-trees : goal.invariant-loop-trees
invariant-loop-trees l = record {
  taken : children l.depth (stacked l.initial.trees.items) ≡ map view l.values.items ++ children l.depth (stacked l.trees.items);
  others : siblings_after l.depth (stacked l.initial.trees.items) ≡ siblings_after l.depth (stacked l.trees.items);
}
