use Rattle.std.proofs.Common.{rules, append_assoc}
use Rattle.desk_wire.specs.Responses.{field_line}
use Rattle.desk_wire.proofs.writing.push_field.Goals as goal

pub returns : goal.returns
unfolding field_line
returns c = search (rules, append_assoc)
