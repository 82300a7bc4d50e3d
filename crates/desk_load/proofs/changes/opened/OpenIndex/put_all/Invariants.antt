use Rattle.std.proofs.Common.{◌≡◌, ◌-◌, take, length}
use Rattle.desk_base.specs.changes.Changes.{without_keys, with_rows}
use Rattle.desk_load.specs.Changed.{parts_of, before_of}
use Rattle.desk_load.specs.Stages.{IsPhase}
use Rattle.desk_load.proofs.changes.opened.OpenIndex.put_all.Given as goal

abbrev pub invariant-loop-row : goal.invariant-loop-row
invariant-loop-row l = record {
  items : l.row-items ≡ l.change.puts;
  stage : IsPhase l.tables (with_rows (without_keys l.tables l.change.removes) (take l.row-index l.row-items)) l.phase (length l.row-items - l.row-index) (parts_of l.self);
  before : before_of l.self ≡ before_of l.initial.self;
}
