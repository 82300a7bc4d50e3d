use Rattle.std.proofs.Common.{◌≡◌, [], true, sym, ap, ◌∙◌, subst}
use Rattle.desk_pruned.specs.Cuts.{cut_at}
use Rattle.desk_pruned.specs.Starts.{AreRoots}
use Rattle.desk_pruned.specs.Trails.{IsClimbed, HasGone, root_tried}
use Rattle.desk_pruned.proofs.cutting.Standing.{gone_up, gone_over}
use Rattle.desk_pruned.proofs.trail.next_position.Goals as goal

pub returns-then-branch-clause-gone : goal.returns-then-branch-clause-gone
returns-then-branch-clause-gone g c =
    let w = g.S.Explored.ways c.args.space.now in
    let old = c.args.trail.now in
    let now = c.climb.new.trail.picks.items in
    let up = subst (λ b. IsClimbed w old.start old.picks.items c.args.tried b now) c.if-branch.true c.in_ok-climb.ensures.climbed in
    subst (λ s. HasGone w (cut_at old.start old.picks.items c.args.tried) true s now c.args.roots.now.items) (sym c.in_ok-climb.ensures.start) (gone_up w c.requires.sound old.start old.picks.items now c.args.tried c.args.roots.now.items up c.requires.roots)

pub next_root-requires-clause-roots : goal.next_root-requires-clause-roots
next_root-requires-clause-roots g c =
    let w = g.S.Explored.ways c.args.space.now in
    let old = c.args.trail.now in
    let first : c.root_tried-first.result ≡ root_tried old.picks.items c.args.tried = c.root_tried-first.ensures ∙ ap (λ l. root_tried l c.args.tried) c.as_slice.ensures.value in
    subst (λ s. AreRoots w (cut_at s [] c.root_tried-first.result) c.args.roots.now.items) (sym c.in_ok-climb.ensures.start) (subst (λ t. AreRoots w (cut_at old.start [] t) c.args.roots.now.items) (sym first) c.requires.roots)

pub returns-clause-gone : goal.returns-clause-gone
returns-clause-gone g c =
    let w = g.S.Explored.ways c.args.space.now in
    let old = c.args.trail.now in
    let new = c.next_root.new.trail in
    let rows = c.next_root.new.roots.items in
    let first : c.root_tried-first.result ≡ root_tried old.picks.items c.args.tried = c.root_tried-first.ensures ∙ ap (λ l. root_tried l c.args.tried) c.as_slice.ensures.value in
    let up = subst (λ b. IsClimbed w old.start old.picks.items c.args.tried b c.climb.new.trail.picks.items) c.if-branch.false c.in_ok-climb.ensures.climbed in
    let gone = subst (λ s. HasGone w (cut_at s [] c.root_tried-first.result) c.in_ok-found.found new.start new.picks.items rows) c.in_ok-climb.ensures.start c.in_ok-found.ensures.gone in
    gone_over w c.requires.sound old.start new.start old.picks.items c.climb.new.trail.picks.items new.picks.items c.args.tried c.in_ok-found.found rows up
    (subst (λ t. HasGone w (cut_at old.start [] t) c.in_ok-found.found new.start new.picks.items rows) first gone)
