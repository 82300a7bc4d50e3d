use Rattle.std.proofs.Common.{◌≡◌, ◌+◌, ◌+ℤ◌, length, w64}
use Rattle.std.specs.Int.{int_wrap}
use Rattle.desk_spans.specs.Minutes.{EachMinute}
use Rattle.desk_spans.specs.Timeline.{end_of, value_at}
use Rattle.desk_spans.proofs.Walks.{Walks}
use Rattle.desk_spans.proofs.profile.Profile.sum_of.Given as goal

abbrev pub invariant-loop-left : goal.invariant-loop-left
invariant-loop-left l = record {
  from : l.sum.from ≡ l.a.from;
  left : Walks l.a l.a.from (end_of l.sum) l.left;
  right : Walks l.b l.a.from (end_of l.sum) l.right;
  sums : EachMinute l.a.from (end_of l.sum) (λ m. value_at l.sum m ≡ int_wrap w64 (value_at l.a m +ℤ value_at l.b m));
  whole : EachMinute l.a.from (end_of l.sum) (λ m. value_at l.a m ≡ int_wrap w64 (value_at l.a m));
}

abbrev pub decreases-loop-left : goal.decreases-loop-left
decreases-loop-left l = length l.left + length l.right
