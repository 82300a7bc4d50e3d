use Rattle.std.proofs.Common.{take, All}
use Rattle.desk_json.specs.Decimals.{IsId}
use Rattle.desk_kept.proofs.typed.look_at_ids.Given as goal

abbrev pub invariant-loop-id : goal.invariant-loop-id
invariant-loop-id g l = All IsId (take l.id-index l.ids)
