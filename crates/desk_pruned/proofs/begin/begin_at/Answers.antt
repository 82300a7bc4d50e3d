use Rattle.std.proofs.Common.{◌≤◌, ◌++◌, [], length, drop, sym, subst, arith}
use Rattle.desk_base.specs.search.Positions.{position_at}
use Rattle.desk_pruned.specs.Cuts.{after, cut_at, LeaveTheSame}
use Rattle.desk_pruned.specs.Trails.{HasTried, Reaches}
use Rattle.desk_pruned.proofs.cutting.Standing.{first_split, whole_rest, same_before, same_there}
use Rattle.desk_pruned.proofs.begin.begin_at.Goals as goal

pub returns-then-not-branch-clause-same : goal.returns-then-not-branch-clause-same
returns-then-not-branch-clause-same g c =
    let w = g.S.Explored.ways c.args.space.now in
    let s = c.args.trail.now.start in
    let some : 1 ≤ length c.args.picks.now = omega arith in
    let t = c.try_root.new.trail in
    let tried = subst (λ b. HasTried w s [] c.first-item.result b t.picks.items) c.if-not-branch.true c.in_ok-try_root-in-len1-up.ensures.tried in
    same_before w c.requires.sound s t.start c.args.picks.now c.first-item.result t.picks.items some c.first-item.is tried.0 c.in_ok-try_root-in-len1-up.ensures.start tried.1

pub returns-in_ok-next-in-len1-up-clause-same : goal.returns-in_ok-next-in-len1-up-clause-same
returns-in_ok-next-in-len1-up-clause-same g c =
    let w = g.S.Explored.ways c.args.space.now in
    let s = c.args.trail.now.start in
    let some : 1 ≤ length c.args.picks.now = omega arith in
    let t = c.try_root.new.trail in
    let tried = subst (λ b. HasTried w s [] c.first-item.result b t.picks.items) c.if-not-branch.false c.in_ok-try_root-in-len1-up.ensures.tried in
    let now = c.descend.new.trail.picks.items in
    let next = c.in_ok-next-in-len1-up.next in
    subst (λ u. LeaveTheSame w (after (position_at s c.args.picks.now)) (cut_at u now next)) (sym c.in_ok-next-in-len1-up.ensures.start)
    (same_there w c.requires.sound s t.start c.args.picks.now t.picks.items (drop 1 c.args.picks.now) now c.first-item.result next (first_split c.args.picks.now c.first-item.result some c.first-item.is) c.in_ok-try_root-in-len1-up.ensures.start tried.1
    (subst (λ l. Reaches w t.start (t.picks.items ++ l) next now) (whole_rest c.args.picks.now) c.in_ok-next-in-len1-up.ensures.place))
