use Rattle.desk_json.proofs.CursorLemmas.{whole_head}
use Rattle.desk_json.proofs.cursor_reading.read_head.Goals as goal

pub returns : goal.returns
returns c = whole_head c.args.text.now c.read_head_pieces.result (rw (c.as_slice.ensures.value, c.in_ok-pieces.ensures) at c.read_head_pieces.ensures)
