use Rattle.std.proofs.Common.{◌≡◌, ◌<◌, length, sym, ap, ◌∙◌, arith}
use Rattle.std.proofs.Math.ListN.{set}
use Rattle.std.proofs.lemmas.List.Edits.{map_over_more}
use Rattle.desk_pruned.specs.Starts.{left}
use Rattle.desk_pruned.proofs.roots.leave.Goals as goal

pub loop-root-preserved : goal.loop-root-preserved
loop-root-preserved c =
    let inside : c.loop-root.root-index < length c.args.roots.now.items = omega arith in
    let f = left c.args.start in
    let written : c.left.result ≡ f c.root-item.result = c.left.ensures ∙ ap f (sym c.root-item.is) in
    ap (set c.loop-root.root-items c.loop-root.root-index) written ∙ map_over_more f c.args.roots.now.items c.loop-root.root-items c.loop-root.root-index c.root-item.result inside c.loop-root.invariant c.root-item.is
