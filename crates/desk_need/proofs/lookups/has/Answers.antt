use Rattle.std.proofs.Common.{◌==◌, not, length, ap, ◌∙◌}
use Rattle.desk_base.specs.declared.rows.resources.HasRow.{HasRow}
use Rattle.desk_base.specs.rows.Ranges.{ranks}
use Rattle.desk_need.proofs.Finds.{any_some}
use Rattle.desk_need.proofs.lookups.has.Goals as goal

pub returns : goal.returns
returns c =
    ap (λ l. not (length l == 0)) c.rows_at-found.ensures ∙ any_some (ranks (λ (h : HasRow). h.resource) (λ h. h.what) c.args.resource c.args.what) c.args.rows.now
