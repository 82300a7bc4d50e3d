use Rattle.std.proofs.Common.{◌≡◌, take, map}
use Rattle.std.specs.Prelude.{All}
use Rattle.serde_json.specs.View.{view}
use Rattle.desk_json.specs.AnsweredPages.{IsRow}
use Rattle.desk_json.specs.Pages.{row_data}
use Rattle.desk_json.proofs.pages.rows_value.Given as goal

abbrev pub invariant-loop-row : goal.invariant-loop-row
invariant-loop-row l = (map view l.values.items ≡ map row_data (take l.row-index l.rows)) × All IsRow (take l.row-index l.rows)
