use Rattle.desk_json.proofs.AskedForms.{asked_forms}
use Rattle.desk_json.proofs.laws.changes_are_of_listed_forms.Goals as goal

pub returns : goal.returns
returns c = asked_forms
