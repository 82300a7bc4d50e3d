-- What pieces put on a minute.
use Rattle.std.specs.Prelude.{ℕ, ◌&&◌, nat_le, nat_lt, if◌then◌else◌, List, fold, sum_by, ℤ, pos, ◌+ℤ◌}
use Rattle.std.specs.Int.RustNames.{unsigned_abs}
use Rattle.desk_spans.specs.declared.piece.Piece.{Piece}

-- the value of a piece at the minutes that it covers, and 0 at the others
abbrev pub share : Piece → ℕ → ℤ
share p minute = if nat_le p.from minute && nat_lt minute p.to then p.value else pos 0

-- the sum of the values of the pieces that cover a minute
abbrev pub sum_at : List Piece → ℕ → ℤ
sum_at pieces minute = fold (λ sum p. sum +ℤ share p minute) (pos 0) pieces

-- the sum of the absolute values of the pieces
abbrev pub weight_of : List Piece → ℕ
weight_of pieces = sum_by (λ p. unsigned_abs p.value) pieces
