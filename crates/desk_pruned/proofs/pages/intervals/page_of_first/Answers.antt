use Rattle.std.proofs.Common.{◌≤◌, ◌+◌, map, length, option_copied, Some, sym, ap, ◌∙◌, subst}
use Rattle.desk_base.specs.rules.Limits.{passed_limit}
use Rattle.desk_base.specs.search.Page.{passed_of, due_of}
use Rattle.desk_base.specs.search.Positions.{positions_after}
use Rattle.desk_pruned.specs.Cuts.{everything}
use Rattle.desk_pruned.specs.Costs.{bound}
use Rattle.desk_pruned.specs.Starts.{AreRoots, unasked_root}
use Rattle.desk_pruned.proofs.paging.Bounds.{all_within}
use Rattle.desk_pruned.proofs.rooted.RowLists.{none_asked, unasked_few}
use Rattle.desk_pruned.proofs.pages.intervals.page_of_first.Goals as goal

pub first_due-requires-clause-roots : goal.first_due-requires-clause-roots
first_due-requires-clause-roots g c = λ k.
    let w = g.S.Explored.ways c.args.space.now in
    subst (AreRoots w k) (sym (c.in_ok-roots.ensures ∙ ap (map unasked_root) c.choices.ensures)) (none_asked w c.requires.sound k)

pub first_due-requires-clause-few : goal.first_due-requires-clause-few
first_due-requires-clause-few g c =
    let w = g.S.Explored.ways c.args.space.now in
    unasked_few w c.requires.sound c.in_ok-roots.roots.items (subst (AreRoots w everything) (sym (c.in_ok-roots.ensures ∙ ap (map unasked_root) c.choices.ensures)) (none_asked w c.requires.sound everything)).picks

pub returns-clause-steps : goal.returns-clause-steps
returns-clause-steps g c =
    let w = g.S.Explored.ways c.args.space.now in
    subst (λ m. c.show_on.new.steps ≤ c.args.steps.now + bound w (length (passed_of w.leaves m passed_limit (due_of w.leaves (Some c.args.per) (record { after = option_copied c.args.after; shown = c.args.shown }) (positions_after (option_copied c.args.after) w.lives))))) c.from.ensures
    (all_within w c.requires.sound c.args.steps.now _ _ c.show_on.new.steps _ c.in_ok-found.ensures.steps c.in_ok-page.ensures.steps)
