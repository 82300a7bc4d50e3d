use Rattle.std.proofs.Common.{arith}
use Rattle.desk_json.proofs.CursorLemmas.{bad_front}
use Rattle.desk_json.proofs.cursor_reading.read_pieces.Goals as goal

pub returns-in_err-revision : goal.returns-in_err-revision
returns-in_err-revision c = bad_front c.in_err-revision.field-0.0 c.args.pieces.now _ c.from_residual.result (omega (arith, c.in-len2-up.len_at_least)) c.in_err-revision.ensures c.from_residual.ensures.1
