use Rattle.std.proofs.Common.{sym, subst}
use Rattle.desk_base.specs.rows.Types.{Tables}
use Rattle.desk_base.specs.rows.Lookups.{KeysRise}
use Rattle.desk_base.specs.changes.OpenTables.{tables_of}
use Rattle.desk_base.proofs.tables.KeyRises.{rise-without_keys}
use Rattle.desk_base.proofs.changes.prepared.Prepared.apply.Goals as goal

pub put_all-requires-clause-rise : goal.put_all-requires-clause-rise
put_all-requires-clause-rise c = subst (λ (t : Tables). KeysRise t) (sym c.take_out_all.ensures.tables) (rise-without_keys (tables_of c.self.inside.open) c.as_slice.result.now c.self.invariant.0)
