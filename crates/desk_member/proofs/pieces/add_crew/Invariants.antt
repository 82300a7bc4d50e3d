use Rattle.std.proofs.Common.{◌≡◌, ◌+◌, ℕ, take, sum_by}
use Rattle.desk_member.specs.Pieces.{taken}
use Rattle.desk_member.specs.Parts.{crew_share, KeepsItems}
use Rattle.desk_member.proofs.pieces.add_crew.Given as goal

abbrev pub invariant-loop-row : goal.invariant-loop-row
invariant-loop-row l = record {
  each : KeepsItems l.tables l.piece l.initial.items l.items;
  sums : (r m : ℕ) → taken l.items r m ≡ taken l.initial.items r m + sum_by (crew_share l.tables l.piece r m) (take l.row-index l.row-items);
}
