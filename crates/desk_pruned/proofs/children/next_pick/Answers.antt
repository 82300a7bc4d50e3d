use Rattle.std.proofs.Common.{◌≤◌, ◌<◌, length, sym, ◌∙◌, subst, arith}
use Rattle.std.proofs.lemmas.Bool.{false≢true}
use Rattle.std.specs.List.Sorted.{IsStrictlySortedBy}
use Rattle.desk_base.specs.search.Order.{pick_cmp}
use Rattle.desk_pruned.proofs.cutting.NextPicks.{none_more, none_at_all, found_here, owed_behind, owed_here}
use Rattle.desk_pruned.proofs.children.next_pick.Goals as goal

pub returns-then-branch-clause-next : goal.returns-then-branch-clause-next
returns-then-branch-clause-next g c =
    let inside : c.loop-pick.pick-index < length c.choices-pick-items.result.now = omega arith in
    found_here (g.S.Explored.ways c.args.space.now) c.args.start c.args.picks.now c.args.tried.now c.choices-pick-items.result.now c.loop-pick.pick-index c.pick-item.result c.requires.sound c.loop-pick.invariant.items inside c.pick-item.is c.loop-pick.invariant.none (c.in_ok-can_go_on.ensures.live.0 c.if-branch.true)

pub returns-then-branch-clause-steps : goal.returns-then-branch-clause-steps
returns-then-branch-clause-steps g c =
    let inside : c.loop-pick.pick-index < length c.choices-pick-items.result.now = omega arith in
    let w = g.S.Explored.ways c.args.space.now in
    let cs = c.choices-pick-items.result.now in
    let rise = subst (IsStrictlySortedBy pick_cmp) (sym c.loop-pick.invariant.items) (c.requires.sound.rise (length c.args.picks.now)) in
    let a = owed_behind c.args.tried.now cs c.loop-pick.pick-index c.pick-item.result inside c.pick-item.is rise (c.in_ok-can_go_on.ensures.live.0 c.if-branch.true).0 in
    let b = owed_here c.args.tried.now cs c.loop-pick.pick-index c.pick-item.result inside c.pick-item.is in
    rw (← c.loop-pick.invariant.items) (omega (arith, c.in_ok-can_go_on.ensures.steps, c.loop-pick.invariant.spent))

pub loop-pick-preserved : goal.loop-pick-preserved
loop-pick-preserved g c =
    let inside : c.loop-pick.pick-index < length c.choices-pick-items.result.now = omega arith in
    let w = g.S.Explored.ways c.args.space.now in
    let cs = c.choices-pick-items.result.now in
    let b = owed_here c.args.tried.now cs c.loop-pick.pick-index c.pick-item.result inside c.pick-item.is in
    record {
      items = c.loop-pick.invariant.items;
      none = none_more w c.args.start c.args.picks.now c.args.tried.now cs c.loop-pick.pick-index c.pick-item.result inside c.pick-item.is c.loop-pick.invariant.none (λ h. false≢true (sym c.if-branch.false ∙ c.in_ok-can_go_on.ensures.live.1 h));
      spent = omega (arith, c.in_ok-can_go_on.ensures.steps, c.loop-pick.invariant.spent);
    }

pub returns-clause-next : goal.returns-clause-next
returns-clause-next g c =
    let outside : length c.choices-pick-items.result.now ≤ c.loop-pick.pick-index = omega arith in
    none_at_all (g.S.Explored.ways c.args.space.now) c.args.start c.args.picks.now c.args.tried.now c.choices-pick-items.result.now c.loop-pick.pick-index c.requires.sound c.loop-pick.invariant.items outside c.loop-pick.invariant.none
