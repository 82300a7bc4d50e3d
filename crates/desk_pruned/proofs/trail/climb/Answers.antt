use Rattle.std.proofs.Common.{◌≤◌, ◌+◌, true, length, sym, ap, ◌∙◌, subst, arith}
use Rattle.std.proofs.lemmas.Grind.{common_steps}
use Rattle.desk_pruned.specs.Ways.{IsNextPick}
use Rattle.desk_pruned.specs.Costs.{owed, owed_after, beside, left_at}
use Rattle.desk_pruned.specs.Trails.{IsOn, IsClimbed}
use Rattle.desk_pruned.proofs.cutting.Climbing.{IsKept, kept_pop, climbed_to, on_pop, popped, cost_found, cost_pop}
use Rattle.desk_pruned.proofs.trail.climb.Goals as goal

pub returns-in-Some-clause-climbed : goal.returns-in-Some-clause-climbed
returns-in-Some-clause-climbed g c =
    let w = g.S.Explored.ways c.args.space.now in
    let t = c.loop-tried.trail in
    let some : 1 ≤ length t.picks.items = grind (arith, common_steps) in
    let next = subst (IsNextPick w t.start t.picks.items c.loop-tried.tried) c.in-Some.is (subst (λ l. IsNextPick w t.start l c.loop-tried.tried c.in_ok-next.next) c.as_slice.ensures.value c.in_ok-next.ensures.next) in
    let out = climbed_to w t.start c.args.trail.now.picks.items c.args.tried c.requires.sound t.picks.items c.in-Some.pick c.loop-tried.tried some next c.loop-tried.invariant.kept in
    subst (λ s. IsClimbed w s c.args.trail.now.picks.items c.args.tried true c.push.new.trail.picks.items) c.loop-tried.invariant.start
    (subst (IsClimbed w t.start c.args.trail.now.picks.items c.args.tried true) (sym c.in_ok-push-in-Some.ensures.ok) out)

pub returns-in-Some-clause-steps : goal.returns-in-Some-clause-steps
returns-in-Some-clause-steps g c =
    let w = g.S.Explored.ways c.args.space.now in
    let t = c.loop-tried.trail in
    let some : 1 ≤ length t.picks.items = grind (arith, common_steps) in
    let cost = subst (λ o. c.next_pick.new.steps + owed_after o (w.choices (length t.picks.items)) ≤ c.loop-tried.steps + owed c.loop-tried.tried (w.choices (length t.picks.items))) c.in-Some.is
    (subst (λ l. c.next_pick.new.steps + owed_after c.in_ok-next.next (w.choices (length l)) ≤ c.loop-tried.steps + owed c.loop-tried.tried (w.choices (length l))) c.as_slice.ensures.value c.in_ok-next.ensures.steps) in
    let all = cost_found w t.picks.items c.in-Some.pick c.loop-tried.tried c.loop-tried.steps c.next_pick.new.steps some cost in
    let end = ap (beside w) c.in_ok-push-in-Some.ensures.ok in
    omega (arith, all, end, c.loop-tried.invariant.spent)

pub loop-tried-preserved : goal.loop-tried-preserved
loop-tried-preserved g c =
    let w = g.S.Explored.ways c.args.space.now in
    let t = c.loop-tried.trail in
    let new = c.pop-tried.new.trail in
    let some : 1 ≤ length t.picks.items = grind (arith, common_steps) in
    let last = popped c.pop-tried.result t.picks.items new.picks.items c.pop-tried.ensures.last some in
    let next = subst (IsNextPick w t.start t.picks.items c.loop-tried.tried) c.in-None.is (subst (λ l. IsNextPick w t.start l c.loop-tried.tried c.in_ok-next.next) c.as_slice.ensures.value c.in_ok-next.ensures.next) in
    let cost = subst (λ o. c.next_pick.new.steps + owed_after o (w.choices (length t.picks.items)) ≤ c.loop-tried.steps + owed c.loop-tried.tried (w.choices (length t.picks.items))) c.in-None.is
    (subst (λ l. c.next_pick.new.steps + owed_after c.in_ok-next.next (w.choices (length l)) ≤ c.loop-tried.steps + owed c.loop-tried.tried (w.choices (length l))) c.as_slice.ensures.value c.in_ok-next.ensures.steps) in
    let spent = cost_pop w t.picks.items new.picks.items last.0 c.loop-tried.tried c.loop-tried.steps c.next_pick.new.steps last.2 (omega (arith, cost)) in
    let kept = kept_pop w t.start c.args.trail.now.picks.items c.args.tried c.requires.sound t.picks.items new.picks.items last.0 c.loop-tried.tried last.2 next c.loop-tried.invariant.kept in
    record {
      held = c.pop-tried.ensures.held;
      start = c.pop-tried.ensures.start ∙ c.loop-tried.invariant.start;
      on = subst (λ s. IsOn w s new.picks.items) (sym c.pop-tried.ensures.start) (on_pop w t.start c.requires.sound t.picks.items new.picks.items last.0 last.2 c.loop-tried.invariant.on);
      kept = subst (λ s. IsKept w s c.args.trail.now.picks.items c.args.tried new.picks.items c.pop-tried.result) (sym c.pop-tried.ensures.start) (subst (IsKept w t.start c.args.trail.now.picks.items c.args.tried new.picks.items) (sym last.1) kept);
      spent = let e = ap (left_at w new.picks.items) last.1 in omega (arith, spent, e, c.loop-tried.invariant.spent);
    }
