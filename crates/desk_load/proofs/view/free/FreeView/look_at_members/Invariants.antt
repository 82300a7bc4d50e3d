use Rattle.std.proofs.Common.{ℕ, List, ◌++◌, take}
use Rattle.desk_load.specs.Scans.{IsScan, members_and_groups}
use Rattle.desk_load.proofs.view.free.FreeView.look_at_members.Given as goal

abbrev pub invariant-loop-row : goal.invariant-loop-row
invariant-loop-row l = (seen : ℕ → List ℕ) → IsScan l.self l.demand seen l.minute l.fn.scan.short l.fn.scan.until → IsScan l.self l.demand (λ k. seen k ++ members_and_groups l.self.tables (take l.row-index l.row-items) k) l.minute l.found.short l.found.until
