use Rattle.std.proofs.Common.{[], Some, None, sym, subst}
use Rattle.desk_pruned.specs.Ways.{IsFirstStart}
use Rattle.desk_pruned.specs.Cuts.{cut_at}
use Rattle.desk_pruned.specs.Starts.{IsKnown, low}
use Rattle.desk_pruned.proofs.rooted.KnownStarts.{told}
use Rattle.desk_pruned.proofs.starts.asked.Goals.{in-Some, in-None}
use Rattle.desk_pruned.proofs.starts.asked.Goals as goal

pub returns-clause-known : goal.returns-clause-known
returns-clause-known g c = λ h.
    let w = g.S.Explored.ways c.args.space.now in
    let s = c.args.start in
    let t = c.args.tried.now in
    let x = c.args.root.now.pick in
    let first = subst (λ n. IsFirstStart w x n c.in_ok-first.first) c.low.ensures c.in_ok-first.ensures.first in
    elim c.match-first.branch [
      | in-Some m ↦ subst (IsKnown w (cut_at s [] t) x) (sym m.next-is) (told w s t x (Some m.in-Some.first) (subst (IsFirstStart w x (low s t x)) m.in-Some.is first))
      | in-None m ↦ subst (IsKnown w (cut_at s [] t) x) (sym m.next-is) (told w s t x None (subst (IsFirstStart w x (low s t x)) m.in-None.is first))
    ]
