use Rattle.desk_pruned.specs.Trails.{root_cut, cut_after}
use Rattle.desk_pruned.specs.Cuts.{cut_at}
use Rattle.std.proofs.Common.{option_copied}
use Rattle.desk_pruned.proofs.paging.Bounds.{first_within}
use Rattle.desk_pruned.proofs.cutting.Standing.{gone_through}
use Rattle.desk_pruned.proofs.begin.first_position.Goals as goal

pub returns-clause-gone : goal.returns-clause-gone
returns-clause-gone g c =
    let w = g.S.Explored.ways c.args.space.now in
    let t = c.begin.new.trail in
    gone_through w c.requires.sound (cut_after (option_copied c.args.after)) (cut_at t.start t.picks.items c.in_ok-tried.tried) c.in_ok-found.found c.next_position.new.trail.start c.next_position.new.trail.picks.items c.next_position.new.roots.items c.in_ok-tried.ensures.same c.in_ok-found.ensures.gone

pub returns-clause-steps : goal.returns-clause-steps
returns-clause-steps g c =
    let w = g.S.Explored.ways c.args.space.now in
    let t = c.begin.new.trail in
    first_within w c.requires.sound c.args.steps.now c.begin.new.steps _ _ _ t.start t.picks.items c.in_ok-tried.tried c.in_ok-tried.ensures.on c.requires.few c.in_ok-tried.ensures.steps c.in_ok-found.ensures.steps

pub next_position-requires-clause-roots : goal.next_position-requires-clause-roots
next_position-requires-clause-roots g c = c.requires.roots (root_cut c.begin.new.trail.start c.begin.new.trail.picks.items c.in_ok-tried.tried)
