use Rattle.std.proofs.Common.{ap, ◌∙◌}
use Rattle.std.specs.List.{slice_get}
use Rattle.desk_base.specs.rows.Ranges.{owns}
use Rattle.desk_base.proofs.lists.Cuts.{first_found}
use Rattle.desk_base.proofs.rows.ranges.row_of.Goals as goal

pub returns : goal.returns
returns g c = c.first.ensures.value ∙ ap (λ l. slice_get l 0) c.rows_of.ensures ∙ first_found (owns g.T.Placed.owner c.args.owner) c.args.rows.now
