-- Runs of starts.
use Rattle.std.specs.Prelude.{ℕ, ◌+◌, ◌≤◌, ◌↔◌, Option, Some, None, MatchOption, ⊤}
use Rattle.desk_base.specs.declared.rows.groups.Leaf.{Leaf}
use Rattle.desk_need.specs.declared.cases.starts.StartRun.{StartRun}

-- the start is one of the run
abbrev pub IsIn : StartRun → ℕ → Type 0
IsIn run s = (run.first ≤ s) × (s ≤ run.last)

-- the starts of which P holds are those of the run, or none
abbrev pub AreStarts : (ℕ → Type 0) → Option StartRun → Type 0
AreStarts P None = (s : ℕ) → P s → ⊥
AreStarts P (Some run) = (s : ℕ) → (P s ↔ IsIn run s)

-- from s on the leaf lies between two minutes
abbrev pub LiesInside : Leaf → ℕ → ℕ → ℕ → Type 0
LiesInside leaf from to s = (from ≤ s + leaf.offset) × (s + leaf.offset + leaf.duration ≤ to)

-- from s on the leaf lies inside its own window, if it has one
abbrev pub LiesInOwn : Leaf → ℕ → Type 0
LiesInOwn leaf s = MatchOption leaf.window ⊤ (λ w. LiesInside leaf w.from w.to s)
