use Rattle.std.proofs.Common.{◌<◌, ◌≤◌, length, sym, subst, arith}
use Rattle.std.proofs.lemmas.List.{take_all}
use Rattle.desk_pruned.specs.Starts.{IsLeastRoot}
use Rattle.desk_pruned.proofs.cutting.NextPicks.{more_here}
use Rattle.desk_pruned.proofs.roots.least.Goals as goal

pub loop-root-preserved : goal.loop-root-preserved
loop-root-preserved c =
    let inside : c.loop-root.root-index < length c.args.roots.now = omega arith in
    subst (λ l. IsLeastRoot l c.earlier-least.result) (sym (more_here c.args.roots.now c.loop-root.root-index c.root-item.result inside c.root-item.is)) (c.earlier-least.ensures _ c.loop-root.invariant)

pub returns : goal.returns
returns c =
    let outside : length c.args.roots.now ≤ c.loop-root.root-index = omega arith in
    subst (λ l. IsLeastRoot l c.loop-root.least) (take_all c.loop-root.root-index c.args.roots.now outside) c.loop-root.invariant
