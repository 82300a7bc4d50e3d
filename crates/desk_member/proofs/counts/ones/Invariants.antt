use Rattle.std.proofs.Common.{◌≡◌, take, map}
use Rattle.desk_member.specs.Counts.{one_more}
use Rattle.desk_member.proofs.counts.ones.Given as goal

abbrev pub invariant-loop-span : goal.invariant-loop-span
invariant-loop-span l = l.pieces ≡ map one_more (take l.span-index l.spans)
