use Rattle.std.proofs.Common.{◌<◌, length, min, rules}
use Rattle.desk_spans.proofs.Intersecting.{front, stands_step}
use Rattle.desk_spans.proofs.runs.intersect.Goals as goal

pub returns-clause-apart : goal.returns-clause-apart
returns-clause-apart c = c.loop-left.invariant.1.apart

pub loop-left-preserved : goal.loop-left-preserved
loop-left-preserved c =
    let some_left : 0 < length c.loop-left.left.now = search rules in
    let some_right : 0 < length c.loop-left.right.now = search rules in
    let pushed = c.in_ok-push.ensures in (
      min (front c.loop-left.left.now).to (front c.loop-left.right.now).to,
      rw (c.behind-left.ensures, c.behind-right.ensures, c.min-to.ensures)
          (stands_step _ _ _ _ _ _ _ some_left some_right c.loop-left.invariant.1 pushed.apart (rw c.min-to.ensures at pushed.ends) (rw (c.min-to.ensures, c.max-from.ensures) at pushed.minutes)),
    )
