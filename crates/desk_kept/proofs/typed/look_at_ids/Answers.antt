use Rattle.std.proofs.Common.{arith}
use Rattle.desk_json.specs.Decimals.{IsId}
use Rattle.desk_kept.proofs.Looks.{one_more, all_seen}
use Rattle.desk_kept.proofs.typed.look_at_ids.Goals as goal

pub loop-id-preserved : goal.loop-id-preserved
loop-id-preserved g c =
    one_more IsId c.args.ids.now c.as_slice-id-items.result.now c.as_slice-id-items.ensures c.loop-id.id-index c.id-item.result (omega arith) c.id-item.is c.loop-id.invariant (omega arith, omega arith)

pub returns : goal.returns
returns g c = all_seen IsId c.args.ids.now c.as_slice-id-items.result.now c.as_slice-id-items.ensures c.loop-id.id-index (omega arith) c.loop-id.invariant
