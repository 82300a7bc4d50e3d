use Rattle.std.proofs.Common.{rules, append_assoc}
use Rattle.desk_wire.specs.Responses.{status_line}
use Rattle.desk_wire.proofs.writing.push_status.Goals as goal

pub returns : goal.returns
unfolding status_line
returns c = search (rules, append_assoc)
