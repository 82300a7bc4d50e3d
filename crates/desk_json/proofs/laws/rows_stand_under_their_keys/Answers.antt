use Rattle.desk_json.proofs.RowKeys.{row_key}
use Rattle.desk_json.proofs.laws.rows_stand_under_their_keys.Goals as goal

pub returns : goal.returns
returns c = row_key
