use Rattle.std.proofs.Common.{◌<◌, sym, subst, arith}
use Rattle.desk_base.specs.rows.Ranges.{AreStill}
use Rattle.desk_base.proofs.lists.Bounds.{bound_after, bound_below, bound_still, bound_all}
use Rattle.desk_base.proofs.rows.ranges.next_bound.Goals as goal

pub returns-clause-later : goal.returns-clause-later
returns-clause-later g c h = subst (λ n. c.args.minute < n) (sym (bound_all g.T.Timed.from g.T.Timed.to c.args.minute c.args.near c.loop-row.next c.loop-row.row-index c.args.rows.now c.loop-row.invariant c.loop-row-test.false)) (bound_after g.T.Timed.from g.T.Timed.to c.args.minute c.args.near c.args.rows.now h)

pub returns-clause-below : goal.returns-clause-below
returns-clause-below g c = omega (arith, bound_all g.T.Timed.from g.T.Timed.to c.args.minute c.args.near c.loop-row.next c.loop-row.row-index c.args.rows.now c.loop-row.invariant c.loop-row-test.false, bound_below g.T.Timed.from g.T.Timed.to c.args.minute c.args.near c.args.rows.now)

pub returns-clause-still : goal.returns-clause-still
returns-clause-still g c = subst (λ n. AreStill g.T.Timed.from g.T.Timed.to c.args.minute n c.args.rows.now) (sym (bound_all g.T.Timed.from g.T.Timed.to c.args.minute c.args.near c.loop-row.next c.loop-row.row-index c.args.rows.now c.loop-row.invariant c.loop-row-test.false)) (bound_still g.T.Timed.from g.T.Timed.to c.args.minute c.args.near c.args.rows.now)
