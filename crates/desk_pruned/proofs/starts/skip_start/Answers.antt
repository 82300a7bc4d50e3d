use Rattle.std.proofs.Common.{[], Some, None, sym, subst, arith}
use Rattle.desk_pruned.specs.Cuts.{cut_at}
use Rattle.desk_pruned.specs.Counts.{later}
use Rattle.desk_pruned.specs.Starts.{AreRoots}
use Rattle.desk_pruned.proofs.rooted.RowLists.{unasked_few}
use Rattle.desk_pruned.proofs.rooted.KnownStarts.{roots_later}
use Rattle.desk_pruned.proofs.cutting.Standing.{gone_through}
use Rattle.desk_pruned.proofs.paging.Showing.{later_same}
use Rattle.desk_pruned.proofs.starts.skip_start.Goals as goal

pub next_root-requires-clause-roots : goal.next_root-requires-clause-roots
next_root-requires-clause-roots g c =
    let w = g.S.Explored.ways c.args.space.now in
    let s = c.args.trail.now.start in
    subst (AreRoots w (cut_at s [] (Some None))) (sym c.leave.ensures) (roots_later w c.requires.roots.0 c.args.roots.now.items c.requires.roots.1 s c.requires.roots.2)

pub returns-clause-gone : goal.returns-clause-gone
returns-clause-gone g c =
    let w = g.S.Explored.ways c.args.space.now in
    let s = c.args.trail.now.start in
    gone_through w c.requires.sound (later s) (cut_at s [] (Some None)) c.in_ok-found.found c.next_root.new.trail.start c.next_root.new.trail.picks.items c.next_root.new.roots.items (later_same w c.requires.sound s) c.in_ok-found.ensures.gone

pub returns-clause-steps : goal.returns-clause-steps
returns-clause-steps g c =
    let w = g.S.Explored.ways c.args.space.now in
    let s = c.args.trail.now.start in
    let rows = roots_later w c.requires.roots.0 c.args.roots.now.items c.requires.roots.1 s c.requires.roots.2 in
    let few = unasked_few w c.requires.sound c.leave.new.roots.items (subst (AreRoots w (cut_at s [] (Some None))) (sym c.leave.ensures) rows).picks in
    omega (arith, few, c.in_ok-found.ensures.steps)
