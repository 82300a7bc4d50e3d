use Rattle.std.proofs.Common.{◌≤◌, ◌+◌, map, length, option_copied, sym, ap, ◌∙◌, subst}
use Rattle.desk_base.specs.rules.Limits.{passed_limit}
use Rattle.desk_base.specs.search.Page.{passed_of}
use Rattle.desk_base.specs.search.Positions.{positions_after}
use Rattle.desk_pruned.specs.Cuts.{everything}
use Rattle.desk_pruned.specs.Costs.{bound}
use Rattle.desk_pruned.specs.Starts.{AreRoots, unasked_root}
use Rattle.desk_pruned.proofs.paging.Bounds.{all_within}
use Rattle.desk_pruned.proofs.rooted.RowLists.{none_asked, unasked_few}
use Rattle.desk_pruned.proofs.pages.all_rows.page_of_all.Goals as goal

pub first_position-requires-clause-roots : goal.first_position-requires-clause-roots
first_position-requires-clause-roots g c = λ k.
    let w = g.S.Explored.ways c.args.space.now in
    subst (AreRoots w k) (sym (c.in_ok-roots.ensures ∙ ap (map unasked_root) c.choices.ensures)) (none_asked w c.requires.sound k)

pub first_position-requires-clause-few : goal.first_position-requires-clause-few
first_position-requires-clause-few g c =
    let w = g.S.Explored.ways c.args.space.now in
    unasked_few w c.requires.sound c.in_ok-roots.roots.items (subst (AreRoots w everything) (sym (c.in_ok-roots.ensures ∙ ap (map unasked_root) c.choices.ensures)) (none_asked w c.requires.sound everything)).picks

pub returns-clause-steps : goal.returns-clause-steps
returns-clause-steps g c =
    let w = g.S.Explored.ways c.args.space.now in
    subst (λ m. c.pass_on.new.steps ≤ c.args.steps.now + bound w (length (passed_of w.leaves m passed_limit (positions_after (option_copied c.args.after) w.lives)))) c.from.ensures
    (all_within w c.requires.sound c.args.steps.now _ _ c.pass_on.new.steps _ c.in_ok-found.ensures.steps c.in_ok-page.ensures.steps)
