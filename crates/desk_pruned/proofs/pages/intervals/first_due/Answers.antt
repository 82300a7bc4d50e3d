use Rattle.std.proofs.Common.{[], None}
use Rattle.desk_pruned.specs.Trails.{root_cut}
use Rattle.desk_pruned.proofs.paging.Showing.{before_later}
use Rattle.desk_pruned.proofs.pages.intervals.first_due.Goals as goal

pub skip_start-requires-clause-roots : goal.skip_start-requires-clause-roots
skip_start-requires-clause-roots g c =
    let w = g.S.Explored.ways c.args.space.now in
    let s = c.in-Some.after.now.start in
    (root_cut s [] None, c.requires.roots (root_cut s [] None), before_later w s [] None)
