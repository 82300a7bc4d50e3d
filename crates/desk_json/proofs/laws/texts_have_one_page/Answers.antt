use Rattle.desk_json.proofs.PageTexts.{page_same}
use Rattle.desk_json.proofs.laws.texts_have_one_page.Goals as goal

pub returns : goal.returns
returns c = page_same
