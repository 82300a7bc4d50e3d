use Rattle.std.proofs.Common.{◌<◌, length, arith}
use Rattle.desk_change.proofs.Picking.{pick_known, pick_unknown}
use Rattle.desk_change.proofs.citing.unknown_among_picks.Goals as goal

pub returns-in-Some : goal.returns-in-Some
returns-in-Some c =
    let inside : c.loop-pick.pick-index < length c.args.picks.now = omega arith in
    pick_unknown c.args.tables.now c.args.picks.now c.loop-pick.pick-index c.pick-item.result c.in-Some.why inside c.pick-item.is c.loop-pick.invariant c.in-Some.ensures

pub loop-pick-preserved : goal.loop-pick-preserved
loop-pick-preserved c =
    let inside : c.loop-pick.pick-index < length c.args.picks.now = omega arith in
    pick_known c.args.tables.now c.args.picks.now c.loop-pick.pick-index c.pick-item.result inside c.pick-item.is c.loop-pick.invariant c.in_default.ensures
