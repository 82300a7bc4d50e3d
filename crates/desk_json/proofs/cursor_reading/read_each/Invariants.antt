use Rattle.std.proofs.Common.{◌≡◌, take, map, All}
use Rattle.desk_json.specs.Cursors.{pick_text}
use Rattle.desk_json.specs.CursorReading.{IsPick}
use Rattle.desk_json.proofs.cursor_reading.read_each.Given as goal

abbrev pub invariant-loop-piece : goal.invariant-loop-piece
invariant-loop-piece l = record {
  each : All IsPick l.picks;
  texts : map (λ piece. piece.now) (take l.piece-index l.pieces) ≡ map pick_text l.picks;
}
