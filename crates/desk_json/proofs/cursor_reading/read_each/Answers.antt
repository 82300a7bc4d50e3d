use Rattle.desk_json.proofs.CursorLemmas.{bad_piece}
use Rattle.desk_json.proofs.cursor_reading.read_each.Goals as goal

pub returns-in_err-pick : goal.returns-in_err-pick
returns-in_err-pick c = bad_piece c.in_err-pick.field-0.0 c.args.pieces.now c.loop-piece.piece-index _ c.from_residual.result c.loop-piece-test.true c.in_err-pick.ensures c.from_residual.ensures.1
