use Rattle.std.proofs.Common.{◌≡◌, ◌≤◌, take}
use Rattle.desk_base.specs.rows.Types.{Table}
use Rattle.desk_base.specs.changes.Changes.{without_keys}
use Rattle.desk_base.specs.changes.OpenTables.{tables_of, room_in}
use Rattle.desk_base.proofs.changes.prepared.take_out_all.Given as goal

abbrev pub invariant-loop-key : goal.invariant-loop-key
invariant-loop-key l = record {
  taken : tables_of l.tables ≡ without_keys (tables_of l.initial.tables) (take l.key-index l.keys);
  room : (table : Table) → room_in l.initial.tables table ≤ room_in l.tables table;
}
