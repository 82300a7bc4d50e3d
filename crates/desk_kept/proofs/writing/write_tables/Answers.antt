use Rattle.std.proofs.Common.{arith}
use Rattle.desk_base.specs.rows.Rows.{rows_in}
use Rattle.desk_base.specs.asked.Refusing.{all_tables}
use Rattle.desk_kept.specs.Stored.{kept_row}
use Rattle.desk_kept.proofs.RowSteps.{one_table}
use Rattle.desk_kept.proofs.writing.write_tables.Goals as goal

pub loop-table-preserved : goal.loop-table-preserved
loop-table-preserved c = one_table (rows_in c.args.tables.now) kept_row all_tables c.loop-table.table-index _ c.loop-table.kept c.put_table.new.kept (omega arith) c.loop-table.invariant c.in_ok-put_table.ensures
