use Rattle.std.proofs.Common.{length, ap, arith}
use Rattle.desk_core.proofs.GroupCounts.{few_booked}
use Rattle.desk_core.proofs.effects.effect_of_cancel.Goals as goal

pub cancelled_receipt-requires : goal.cancelled_receipt-requires
cancelled_receipt-requires c =
    let few = few_booked c.args.tables.now c.args.group c.requires.sound in
    let gone = ap length c.booked_for-gone.ensures in
    omega arith
