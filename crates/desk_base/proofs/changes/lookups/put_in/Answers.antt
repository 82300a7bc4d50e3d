use Rattle.std.proofs.Common.{◌∙◌, List, set, ap, sym, subst}
use Rattle.desk_base.specs.rows.Types.{Key}
use Rattle.desk_base.specs.declared.changes.formers.Former.TheVariants.{Row, Nothing}
use Rattle.desk_base.specs.rows.Lookups.{StandsAt, BelongsAt}
use Rattle.desk_base.proofs.tables.KeyParts.{put_over, put_beside}
use Rattle.desk_base.proofs.tables.TakenBack.{former_there, former_absent}
use Rattle.desk_base.proofs.changes.lookups.put_in.Goals as goal

pub returns-in-Ok-clause-items : goal.returns-in-Ok-clause-items
returns-in-Ok-clause-items g c =
    let any = g.T.Row.any c.args.table in
    ap (λ (x : g.row.T.Denot). set c.args.rows.now.items c.in-Ok.at x) c.replace.ensures.after
    ∙ put_over any c.args.row c.args.rows.now.items c.in-Ok.at
    (subst (λ (k : Key). StandsAt any k c.args.rows.now.items c.in-Ok.at) c.key_in-key.ensures (subst (λ (l : List g.row.T.Denot). StandsAt any c.key_in-key.result l c.in-Ok.at) c.as_slice.ensures.value c.in-Ok.ensures.stands))

pub returns-in-Err-clause-items : goal.returns-in-Err-clause-items
returns-in-Err-clause-items g c =
    let any = g.T.Row.any c.args.table in
    (rw c.unwrap.ensures at c.insert.ensures.items)
    ∙ put_beside any c.args.row c.args.rows.now.items c.in-Err.at
    (subst (λ (k : Key). BelongsAt any k c.args.rows.now.items c.in-Err.at) c.key_in-key.ensures (subst (λ (l : List g.row.T.Denot). BelongsAt any c.key_in-key.result l c.in-Err.at) c.as_slice.ensures.value c.in-Err.ensures.belongs))

pub returns-in-Ok-clause-former : goal.returns-in-Ok-clause-former
returns-in-Ok-clause-former g c =
    let any = g.T.Row.any c.args.table in
    ap Row (c.into_any.ensures ∙ ap any (c.replace.ensures.value ∙ c.index_mut.ensures.value))
    ∙ sym (former_there any _ c.args.rows.now.items c.in-Ok.at _ c.requires.rise
    (subst (λ (k : Key). StandsAt any k c.args.rows.now.items c.in-Ok.at) c.key_in-key.ensures (subst (λ (l : List g.row.T.Denot). StandsAt any c.key_in-key.result l c.in-Ok.at) c.as_slice.ensures.value c.in-Ok.ensures.stands)))

pub returns-in-Err-clause-former : goal.returns-in-Err-clause-former
returns-in-Err-clause-former g c =
    let any = g.T.Row.any c.args.table in
    ap Nothing c.key_in-key.ensures
    ∙ sym (former_absent any _ c.args.rows.now.items c.in-Err.at
    (subst (λ (k : Key). BelongsAt any k c.args.rows.now.items c.in-Err.at) c.key_in-key.ensures (subst (λ (l : List g.row.T.Denot). BelongsAt any c.key_in-key.result l c.in-Err.at) c.as_slice.ensures.value c.in-Err.ensures.belongs)))
