use Rattle.std.proofs.Common.{◌≡◌, ◌++◌, take, map}
use Rattle.desk_kept.specs.Stored.{kept_row}
use Rattle.desk_kept.proofs.writing.put_rows.Given as goal

abbrev pub invariant-loop-row : goal.invariant-loop-row
invariant-loop-row g l = l.kept ≡ l.fn.kept ++ map kept_row (map (g.R.Written.any l.table) (take l.row-index l.rows))
