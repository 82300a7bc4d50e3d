use Rattle.desk_route.proofs.ReadingLemmas.{reads_same}
use Rattle.desk_route.proofs.laws.requests_have_one_reading.Goals as goal

pub returns : goal.returns
returns c = reads_same c.texts_have_one_cursor.ensures
