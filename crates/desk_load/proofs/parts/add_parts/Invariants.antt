use Rattle.std.proofs.Common.{◌≡◌, ◌++◌, map, take}
use Rattle.desk_load.specs.Parts.{part_of}
use Rattle.desk_load.proofs.parts.add_parts.Given as goal

abbrev pub invariant-loop-item : goal.invariant-loop-item
invariant-loop-item l = l.parts.items ≡ l.fn.parts.items ++ map part_of (take l.item-index l.items)
