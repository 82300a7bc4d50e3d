use Rattle.std.proofs.Common.{◌≡◌, ◌==◌, find, drop}
use Rattle.desk_base.specs.rows.Keys.{table_number}
use Rattle.desk_kept.proofs.stored.numbered.Given as goal

abbrev pub invariant-loop-table : goal.invariant-loop-table
invariant-loop-table l = find (λ table. table_number table == l.number) l.tables ≡ find (λ table. table_number table == l.number) (drop l.table-index l.tables)
