use Rattle.std.proofs.Common.{◌≡◌, ◌+◌, ◌++◌, ◌≤◌, length, vec_len, vec_capacity}
use Rattle.std.specs.Vec.Iter.{into_iter_items}
use Rattle.desk_base.specs.rows.Types.{Table}
use Rattle.desk_base.specs.changes.Changes.{with_rows}
use Rattle.desk_base.specs.changes.OpenTables.{tables_of, room_in}
use Rattle.desk_base.specs.changes.Formers.{taken_back, HavePlaces}
use Rattle.desk_base.proofs.changes.prepared.put_all.Given as goal

abbrev pub invariant-loop-row : goal.invariant-loop-row
invariant-loop-row l = record {
  items : l.yielded ++ into_iter_items l.row-iterator ≡ into_iter_items l.initial.row-iterator;
  put : tables_of l.tables ≡ with_rows (tables_of l.initial.tables) l.yielded;
  room : (table : Table) → room_in l.initial.tables table ≤ room_in l.tables table + length l.yielded;
  noted : vec_len l.formers ≡ length l.yielded;
  capacity : vec_capacity l.formers ≡ vec_capacity l.initial.formers;
  back : taken_back (tables_of l.tables) l.formers.items ≡ tables_of l.initial.tables;
  places : HavePlaces (tables_of l.tables) l.formers.items;
}
