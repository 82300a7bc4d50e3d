use Rattle.desk_route.proofs.ReadingLemmas.{asks_listed}
use Rattle.desk_route.proofs.laws.requests_ask_for_listed_commands.Goals as goal

pub returns : goal.returns
returns c = asks_listed c.changes_are_of_listed_forms.ensures
