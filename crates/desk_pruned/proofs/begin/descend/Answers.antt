use Rattle.std.proofs.Common.{◌<◌, length, sym, subst, arith, ◌++◌, Some}
use Rattle.desk_pruned.specs.Trails.{HasTried, Reaches}
use Rattle.desk_pruned.proofs.cutting.Standing.{reaches_part}
use Rattle.desk_pruned.proofs.begin.descend.Goals as goal

pub returns-then-not-branch-clause-place : goal.returns-then-not-branch-clause-place
returns-then-not-branch-clause-place g c =
    let w = g.S.Explored.ways c.args.space.now in
    let inside : c.loop-pick.pick-index < length c.args.rest.now = omega arith in
    let q = c.loop-pick.trail.picks.items in
    let s = c.loop-pick.trail.start in
    let tried = subst (λ b. HasTried w s q c.pick-item.result b c.try_push.new.trail.picks.items) c.if-not-branch.true c.in_ok-try_push.ensures.tried in
    subst (λ n. Reaches w n (c.args.trail.now.picks.items ++ c.args.rest.now) (Some c.pick-item.result) c.try_push.new.trail.picks.items) c.loop-pick.invariant.start
    (subst (Reaches w s (c.args.trail.now.picks.items ++ c.args.rest.now) (Some c.pick-item.result)) (sym tried.1)
    (reaches_part w c.requires.sound s c.args.trail.now.picks.items c.args.rest.now q c.loop-pick.pick-index c.pick-item.result inside c.pick-item.is c.loop-pick.invariant.picks tried.0))
