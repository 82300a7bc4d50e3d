use Rattle.std.proofs.Common.{None, option_copied, sym, subst}
use Rattle.desk_pruned.specs.Cuts.{cut_at, LeaveTheSame}
use Rattle.desk_pruned.specs.Trails.{cut_after}
use Rattle.desk_pruned.proofs.cutting.Standing.{same_first}
use Rattle.desk_pruned.proofs.begin.begin.Goals as goal

pub returns-in-None-clause-same : goal.returns-in-None-clause-same
returns-in-None-clause-same g c =
    let w = g.S.Explored.ways c.args.space.now in
    let s = c.earliest-trail.result in
    let q = c.args.trail.now.picks.items in
    subst (λ o. LeaveTheSame w (cut_after (option_copied o)) (cut_at s q None)) (sym c.in-None.is) (same_first w c.requires.sound s q c.earliest-trail.ensures c.requires.nothing)
