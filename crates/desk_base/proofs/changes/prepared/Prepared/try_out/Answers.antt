use Rattle.std.proofs.Common.{sym, subst}
use Rattle.desk_base.specs.rows.Types.{Tables}
use Rattle.desk_base.specs.rows.Lookups.{KeysRise}
use Rattle.desk_base.specs.changes.OpenTables.{tables_of}
use Rattle.desk_base.proofs.tables.KeyRises.{rise-with_rows}
use Rattle.desk_base.proofs.tables.TakenBack.{counters_back}
use Rattle.desk_base.proofs.changes.prepared.Prepared.try_out.Goals as goal

pub of-requires-clause-rise : goal.of-requires-clause-rise
of-requires-clause-rise c =
    subst (λ (t : Tables). KeysRise t) (sym (counters_back (tables_of c.put_all.new.tables) c.close.result _ _ c.replace-revision_before.result c.replace-last_before.result c.close.ensures c.replace-revision_before.ensures.value c.replace-last_before.ensures.value))
    (subst (λ (t : Tables). KeysRise t) (sym c.put_all.ensures.tables) (rise-with_rows (tables_of c.self.inside.open) c.into_vec.result.items c.self.invariant.0))
