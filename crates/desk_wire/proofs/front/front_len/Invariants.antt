use Rattle.std.proofs.Common.{◌≡◌, ◌<◌, ◌++◌, take, drop}
use Rattle.desk_wire.specs.Limits.{most_head_lines}
use Rattle.desk_wire.specs.Front.{through}
use Rattle.desk_wire.proofs.front.front_len.Given as goal

abbrev pub invariant-loop-i : goal.invariant-loop-i
invariant-loop-i l = record {
  some : 0 < l.left;
  rest : through most_head_lines l.rest ≡ take l.i l.rest ++ through l.left (drop l.i l.rest);
}
