use Rattle.desk_json.proofs.CursorTexts.{cursor_same}
use Rattle.desk_json.proofs.laws.texts_have_one_cursor.Goals as goal

pub returns : goal.returns
returns c = cursor_same
