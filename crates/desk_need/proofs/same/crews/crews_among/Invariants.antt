use Rattle.std.proofs.Common.{◌≡◌, take, map}
use Rattle.std.specs.Prelude.{filter}
use Rattle.desk_base.specs.declared.rows.resources.ResourceRow.{ResourceRow}
use Rattle.desk_need.specs.Crews.{is_crew_row}
use Rattle.desk_need.proofs.same.crews.crews_among.Given as goal

abbrev pub invariant-loop-row : goal.invariant-loop-row
invariant-loop-row l = l.out.items ≡ map (λ (x : ResourceRow). x.id) (filter is_crew_row (take l.row-index l.rows))
