use Rattle.std.proofs.Common.{◌≡◌, ◌++◌, take, map}
use Rattle.std.specs.List.{flat_map}
use Rattle.desk_base.specs.rows.Rows.{rows_in}
use Rattle.desk_kept.specs.Stored.{kept_row}
use Rattle.desk_kept.proofs.writing.write_tables.Given as goal

abbrev pub invariant-loop-table : goal.invariant-loop-table
invariant-loop-table l = l.kept ≡ map kept_row (flat_map (rows_in l.tables) (take l.table-index l.table-items))
