use Rattle.std.proofs.Common.{suc, ◌∙◌, sym, ap, subst}
use Rattle.desk_base.specs.declared.rows.tables.Key.{Key}
use Rattle.desk_base.specs.changes.Changes.{with_row}
use Rattle.desk_load.specs.Changed.{parts_of}
use Rattle.desk_load.specs.Effects.{is_indexed}
use Rattle.desk_load.specs.Stages.{IsPhase}
use Rattle.desk_load.proofs.Keeping.{keep_in, index_kept}
use Rattle.desk_load.proofs.changes.opened.OpenIndex.put_row.Goals as goal

pub returns-else-is_indexed-clause-put : goal.returns-else-is_indexed-clause-put
returns-else-is_indexed-clause-put c s more h =
    let i = parts_of c.args.self.now in
    let row = c.args.row.now in
    let closed = subst (λ p. IsPhase c.args.tables.now s p (suc more) i) c.in-Closed.is h in
    (index_kept s (with_row s row) i (keep_in s row (ap (λ (k : Key). is_indexed k.table) (sym c.key.ensures) ∙ sym c.if-is_indexed.ensures)) closed.0, closed.1)
