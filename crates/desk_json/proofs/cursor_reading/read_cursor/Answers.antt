use Rattle.desk_json.proofs.CursorLemmas.{whole_reading}
use Rattle.desk_json.proofs.cursor_reading.read_cursor.Goals as goal

pub returns : goal.returns
returns c = whole_reading c.args.text.now c.read_pieces.result (rw (c.as_slice.ensures.value, c.in_ok-pieces.ensures) at c.read_pieces.ensures)
