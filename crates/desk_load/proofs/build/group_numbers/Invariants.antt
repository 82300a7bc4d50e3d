use Rattle.std.proofs.Common.{◌≡◌, map, take}
use Rattle.desk_base.specs.declared.rows.groups.GroupRow.{GroupRow}
use Rattle.desk_load.proofs.build.group_numbers.Given as goal

abbrev pub invariant-loop-group : goal.invariant-loop-group
invariant-loop-group l = record {
  items : l.group-items ≡ l.tables.groups;
  numbers : l.numbers.items ≡ map (λ (x : GroupRow). x.id) (take l.group-index l.group-items);
}
