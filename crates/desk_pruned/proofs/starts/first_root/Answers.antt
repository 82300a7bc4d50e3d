use Rattle.std.proofs.Common.{[], subst}
use Rattle.desk_pruned.specs.Ways.{IsNextPick}
use Rattle.desk_pruned.specs.Starts.{IsLeastRoot}
use Rattle.desk_pruned.proofs.cutting.Cuts.{next_here}
use Rattle.desk_pruned.proofs.rooted.KnownStarts.{first_of_all}
use Rattle.desk_pruned.proofs.starts.first_root.Goals as goal

pub returns-in-Some-clause-first : goal.returns-in-Some-clause-first
returns-in-Some-clause-first g c =
    let w = g.S.Explored.ways c.args.space.now in
    next_here w c.requires.sound c.args.start [] c.args.tried.now c.in-Some.pick (subst (IsNextPick w c.args.start [] c.args.tried.now) c.in-Some.is c.in_ok-here.ensures.next)

pub returns-in_ok-ask_all-in-None-clause-first : goal.returns-in_ok-ask_all-in-None-clause-first
returns-in_ok-ask_all-in-None-clause-first g c =
    let w = g.S.Explored.ways c.args.space.now in
    let all = c.in_ok-ask_all-in-None.ensures in
    first_of_all w c.requires.sound c.args.start c.args.tried.now c.ask_all.new.roots.items all.roots all.asked c.least.result (subst (λ l. IsLeastRoot l c.least.result) c.as_slice.ensures.value c.least.ensures)
