use Rattle.std.proofs.Common.{◌≡◌, ℕ, true, sym, ◌∙◌, arith}
use Rattle.std.proofs.lemmas.Bool.Decides.{nat_tests}
use Rattle.desk_base.specs.declared.rows.groups.GroupRow.{GroupRow}
use Rattle.desk_base.specs.search.Listing.{IsOnGrid}
use Rattle.desk_feasible.specs.Grid.{is_on_grid}
use Rattle.desk_feasible.proofs.grid.is_on_grid.Goals as goal

to_grid : (g : GroupRow) (s : ℕ) → is_on_grid g s ≡ true → IsOnGrid g s
to_grid g s e = record { from = grind (arith, nat_tests); below = grind (arith, nat_tests); steps = grind (arith, nat_tests) }

from_grid : (g : GroupRow) (s : ℕ) → IsOnGrid g s → is_on_grid g s ≡ true
from_grid g s h = let a = h.from in let b = h.below in let c = h.steps in grind (arith, nat_tests)

pub returns : goal.returns
returns c = (λ e. to_grid c.args.group.now c.args.start (sym c.passes_grid.ensures ∙ e), λ h. c.passes_grid.ensures ∙ from_grid c.args.group.now c.args.start h)
