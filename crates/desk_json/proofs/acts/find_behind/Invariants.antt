use Rattle.std.proofs.Common.{◌≡◌, ◌++◌, drop, find, bytes_eq}
use Rattle.desk_json.specs.Words.{table_name}
use Rattle.desk_json.proofs.acts.find_behind.Given as goal

abbrev pub invariant-loop-table : goal.invariant-loop-table
invariant-loop-table l =
    find (λ table. bytes_eq (l.front ++ table_name table) l.text) l.tables ≡ find (λ table. bytes_eq (l.front ++ table_name table) l.text) (drop l.table-index l.tables)
