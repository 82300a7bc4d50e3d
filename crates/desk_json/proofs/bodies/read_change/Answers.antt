use Rattle.desk_json.proofs.AskedForms.{read_forms}
use Rattle.desk_json.proofs.bodies.read_change.Goals as goal

pub returns-clause-form : goal.returns-clause-form
returns-clause-form c = read_forms _ c.read_command.result c.read_command.ensures
