use Rattle.std.proofs.Common.{◌≡◌, ◌≤◌, length}
use Rattle.std.specs.List.{AllWithin}
use Rattle.desk_base.specs.rows.Rows.{key_of}
use Rattle.desk_base.specs.changes.OpenTables.{tables_of, room_in}
use Rattle.desk_base.proofs.changes.prepared.reserve_all.Given as goal

abbrev pub invariant-loop-row : goal.invariant-loop-row
invariant-loop-row l = record {
  same : tables_of l.tables ≡ tables_of l.initial.tables;
  room : AllWithin (λ row. length l.rows ≤ room_in l.tables (key_of row).table) l.rows 0 l.row-index;
}
