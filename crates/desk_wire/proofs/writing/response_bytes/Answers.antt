use Rattle.std.proofs.Common.{rules, append_assoc}
use Rattle.desk_wire.specs.Responses.{response_text}
use Rattle.desk_wire.proofs.writing.response_bytes.Goals as goal

pub returns : goal.returns
unfolding response_text
returns c = search (rules, append_assoc)
