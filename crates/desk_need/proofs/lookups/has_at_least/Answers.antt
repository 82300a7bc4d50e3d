use Rattle.std.proofs.Common.{ap, ◌∙◌, nat_le}
use Rattle.std.specs.List.{list_any}
use Rattle.desk_base.specs.declared.rows.resources.HasRow.{HasRow}
use Rattle.desk_base.specs.rows.Ranges.{ranks}
use Rattle.desk_need.proofs.Finds.{any_filter}
use Rattle.desk_need.proofs.lookups.has_at_least.Goals as goal

pub returns : goal.returns
returns c =
    c.reach.ensures ∙ ap (list_any (λ (h : HasRow). nat_le c.args.rating h.rating)) c.rows_at-found.ensures
    ∙ any_filter (ranks (λ (h : HasRow). h.resource) (λ h. h.what) c.args.resource c.args.what) (λ h. nat_le c.args.rating h.rating) c.args.rows.now
