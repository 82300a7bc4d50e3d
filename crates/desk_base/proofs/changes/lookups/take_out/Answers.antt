use Rattle.std.proofs.Common.{◌∙◌, List, subst}
use Rattle.desk_base.specs.rows.Lookups.{StandsAt, BelongsAt}
use Rattle.desk_base.proofs.tables.KeyParts.{taken_out, none_taken}
use Rattle.desk_base.proofs.changes.lookups.take_out.Goals as goal

pub returns-in-Ok-clause-items : goal.returns-in-Ok-clause-items
returns-in-Ok-clause-items g c =
    let any = g.T.Row.any c.args.table in
    c.remove-row.ensures.items
    ∙ taken_out any c.args.key.now c.args.rows.now.items c.in-Ok.at (subst (λ (l : List g.row.T.Denot). StandsAt any c.args.key.now l c.in-Ok.at) c.as_slice.ensures.value c.in-Ok.ensures.stands)

pub returns-in_default-clause-items : goal.returns-in_default-clause-items
returns-in_default-clause-items g c =
    let any = g.T.Row.any c.args.table in
    none_taken any c.args.key.now c.args.rows.now.items c.in_default.field-0 (subst (λ (l : List g.row.T.Denot). BelongsAt any c.args.key.now l c.in_default.field-0) c.as_slice.ensures.value c.in_default.ensures.belongs)
