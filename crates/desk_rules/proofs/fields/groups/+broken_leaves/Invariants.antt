use Rattle.std.proofs.Common.{length}
use Rattle.desk_rules.proofs.fields.groups.+broken_leaves.Given as goal

abbrev pub decreases-broken_leaves : goal.decreases-broken_leaves
decreases-broken_leaves l = length l.leaves.now
