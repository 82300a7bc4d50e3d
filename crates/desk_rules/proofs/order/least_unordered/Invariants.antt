use Rattle.std.proofs.Common.{◌≡◌, None, drop}
use Rattle.desk_base.specs.rows.Lookups.{keys_by}
use Rattle.desk_rules.specs.Broken.{least_unordered}
use Rattle.desk_rules.proofs.order.least_unordered.Given as goal

abbrev pub invariant-loop-row : goal.invariant-loop-row
invariant-loop-row g l = least_unordered l.before l.least (keys_by (g.R.Judged.any l.table) (drop l.row-index l.rows)) ≡ least_unordered None None (keys_by (g.R.Judged.any l.table) l.rows)
