use Rattle.std.proofs.Common.{sym, subst, take}
use Rattle.desk_base.specs.rows.Types.{Tables}
use Rattle.desk_base.specs.rows.Lookups.{KeysRise}
use Rattle.desk_base.specs.changes.OpenTables.{tables_of}
use Rattle.desk_base.proofs.tables.KeyRises.{rise-without_keys}
use Rattle.desk_base.proofs.changes.prepared.take_out_all.Goals as goal

pub take_out-requires : goal.take_out-requires
take_out-requires c = subst (λ (t : Tables). KeysRise t) (sym c.loop-key.invariant.taken) (rise-without_keys (tables_of c.args.tables.now) (take c.loop-key.key-index c.args.keys.now) c.requires)
