-- Members, counted.
use Rattle.std.specs.Prelude.{pos}
use Rattle.desk_spans.specs.declared.piece.Piece.{Piece}
use Rattle.desk_member.specs.declared.spans.MemberSpan.{MemberSpan}

-- a span as one member more at each minute of it
abbrev pub one_more : MemberSpan → Piece
one_more s = record { from = s.from; to = s.to; value = pos 1 }
