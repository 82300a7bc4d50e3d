use Rattle.desk_json.proofs.CursorTexts.{cursor_lacks}
use Rattle.desk_json.proofs.laws.cursor_texts_are_plain.Goals as goal

pub returns : goal.returns
returns c = cursor_lacks
