use Rattle.std.proofs.Common.{ℕ, List, ◌++◌, take}
use Rattle.desk_load.specs.Scans.{IsScan, groups_at}
use Rattle.desk_load.proofs.view.free.FreeView.look_at_groups.Given as goal

abbrev pub invariant-loop-row : goal.invariant-loop-row
invariant-loop-row l = (seen : ℕ → List ℕ) → IsScan l.self l.demand seen l.minute l.fn.scan.short l.fn.scan.until → IsScan l.self l.demand (λ k. seen k ++ groups_at (take l.row-index l.row-items) k) l.minute l.found.short l.found.until
