use Rattle.std.proofs.Common.{◌≡◌, map, take}
use Rattle.std.specs.Option.{option_copied, option_to_list}
use Rattle.httparse.specs.Spans.{header_bytes}
use Rattle.desk_wire.specs.Framing.{lengths}
use Rattle.desk_wire.proofs.framing.framing_of_lengths.Given as goal

abbrev pub invariant-loop-header : goal.invariant-loop-header
invariant-loop-header l = lengths (map (header_bytes l.buf) (take l.header-index l.headers)) ≡ option_to_list (option_copied l.length)
