use Rattle.std.proofs.Common.{◌≡◌, take}
use Rattle.desk_member.specs.Spans.{spans_of}
use Rattle.desk_member.proofs.spans.member_spans.Given as goal

abbrev pub invariant-loop-row : goal.invariant-loop-row
invariant-loop-row l = l.spans ≡ spans_of l.window (take l.row-index l.row-items)
