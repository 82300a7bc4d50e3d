use Rattle.std.proofs.Common.{◌≡◌, take, length}
use Rattle.desk_base.specs.changes.Changes.{without_keys}
use Rattle.desk_load.specs.Changed.{parts_of, before_of}
use Rattle.desk_load.specs.Stages.{IsPhase}
use Rattle.desk_load.proofs.changes.opened.OpenIndex.take_out_all.Given as goal

abbrev pub invariant-loop-key : goal.invariant-loop-key
invariant-loop-key l = record {
  items : l.key-items ≡ l.change.removes;
  stage : IsPhase l.tables (without_keys l.tables (take l.key-index l.key-items)) l.phase (length l.change.puts) (parts_of l.self);
  before : before_of l.self ≡ before_of l.initial.self;
}
