use Rattle.std.proofs.Common.{rules, append_assoc}
use Rattle.desk_wire.specs.Responses.{first_lines}
use Rattle.desk_wire.proofs.writing.push_first_lines.Goals as goal

pub returns : goal.returns
unfolding first_lines
returns c = search (rules, append_assoc)
