use Rattle.std.proofs.Common.{◌++◌, ◌∷◌, [], sym, ap, ◌∙◌, subst, arith}
use Rattle.std.specs.List.Sorted.{IsStrictlySortedBy}
use Rattle.desk_base.specs.search.Order.{pick_cmp}
use Rattle.desk_pruned.specs.Cuts.{cut_at}
use Rattle.desk_pruned.specs.Starts.{IsFirstRoot, unasked}
use Rattle.desk_pruned.proofs.rooted.RowLists.{unasked_forgotten}
use Rattle.desk_pruned.proofs.rooted.KnownStarts.{roots_past}
use Rattle.desk_pruned.proofs.cutting.Standing.{gone_to}
use Rattle.desk_pruned.proofs.starts.next_root.Goals as goal

pub returns-in_ok-push-in-Some-clause-gone : goal.returns-in_ok-push-in-Some-clause-gone
returns-in_ok-push-in-Some-clause-gone g c =
    let w = g.S.Explored.ways c.args.space.now in
    let k = cut_at c.args.trail.now.start [] c.args.tried.now in
    let f = c.in-Some.first in
    let first = subst (IsFirstRoot w k) c.in-Some.is c.in_ok-first.ensures.first in
    gone_to w c.requires.sound k c.push.new.trail.start f.start c.push.new.trail.picks.items f.pick _ c.forget.new.roots.items first (roots_past w k c.first_root.new.roots.items c.in_ok-first.ensures.roots f.start f.pick first)
    c.in_ok-push-in-Some.ensures.start (c.in_ok-push-in-Some.ensures.ok ∙ ap (λ l. l ++ f.pick ∷ []) c.requires.nothing) c.forget.ensures

pub returns-in_ok-push-in-Some-clause-steps : goal.returns-in_ok-push-in-Some-clause-steps
returns-in_ok-push-in-Some-clause-steps g c =
    let w = g.S.Explored.ways c.args.space.now in
    let rise = subst (IsStrictlySortedBy pick_cmp) (sym c.in_ok-first.ensures.roots.picks) (c.requires.sound.rise 0) in
    let one = unasked_forgotten c.in-Some.first.pick c.first_root.new.roots.items rise in
    let same = ap unasked c.forget.ensures in
    omega (arith, one, same, c.in_ok-first.ensures.steps)
