use Rattle.std.proofs.Common.{◌≡◌, sym, ◌∙◌, subst}
use Rattle.desk_base.specs.declared.rows.tables.Tables.{Tables}
use Rattle.desk_base.specs.changes.Changes.{without_key}
use Rattle.desk_load.specs.Differing.{DiffersAt}
use Rattle.desk_base.proofs.tables.Sounds.{keys_in_order}
use Rattle.desk_load.proofs.Differing.{differs_without}
use Rattle.desk_core.proofs.judging.judge_without.Goals as goal

pub without-requires-clause-rise : goal.without-requires-clause-rise
without-requires-clause-rise c = λ table. keys_in_order c.args.tables table c.requires.before.formed.order

pub judge-judged-requires-clause-changed : goal.judge-judged-requires-clause-changed
judge-judged-requires-clause-changed c =
    let without : c.tables.result.now ≡ without_key c.args.tables c.args.key.now = c.tables.ensures ∙ c.in-Ok.ensures.tables in
    subst (λ (u : Tables). DiffersAt c.of-before.result.value u c.args.key.now) (sym without)
    (subst (λ (t : Tables). DiffersAt t (without_key c.args.tables c.args.key.now) c.args.key.now) (sym c.of-before.ensures)
    (differs_without c.args.tables c.args.key.now (λ table. keys_in_order c.args.tables table c.requires.before.formed.order) c.requires.bears))
