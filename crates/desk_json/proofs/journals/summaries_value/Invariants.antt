use Rattle.std.proofs.Common.{◌≡◌, take, map}
use Rattle.serde_json.specs.View.{view}
use Rattle.desk_json.specs.Journals.{summary_data}
use Rattle.desk_json.proofs.journals.summaries_value.Given as goal

abbrev pub invariant-loop-summary : goal.invariant-loop-summary
invariant-loop-summary l = map view l.values.items ≡ map summary_data (take l.summary-index l.summaries)
