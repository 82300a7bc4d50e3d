-- The grid, as a test.
use Rattle.std.specs.Prelude.{ℕ, ◌≡◌, ◌≤◌, ◌-◌, ◌%◌, Bool, nat_le, nat_lt, ◌==◌, ◌&&◌}
use Rattle.desk_base.specs.declared.rows.groups.GroupRow.{GroupRow}

-- the start is on the group's grid
abbrev pub is_on_grid : GroupRow → ℕ → Bool
is_on_grid g s = nat_le g.from s && nat_lt s g.to && ((s - g.from) % g.step == 0)

-- s is the group's start plus whole steps
pub record IsInSteps (g : GroupRow) (s : ℕ) : Type 0 where
  pub from : g.from ≤ s
  pub steps : (s - g.from) % g.step ≡ 0
