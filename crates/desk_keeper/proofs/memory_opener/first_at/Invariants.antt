use Rattle.std.proofs.Common.{take}
use Rattle.desk_keeper.specs.Stock.{HasNone}
use Rattle.desk_keeper.proofs.memory_opener.first_at.Given as goal

-- no store before this one has the path
abbrev pub invariant-loop-i : goal.invariant-loop-i
invariant-loop-i l = HasNone l.path (take l.i l.stores)
