use Rattle.std.proofs.Common.{sym, subst}
use Rattle.desk_base.specs.declared.rows.tables.Tables.{Tables}
use Rattle.desk_base.specs.rows.Lookups.{KeysRise}
use Rattle.desk_base.proofs.tables.KeyRises.{rise-no_rows}
use Rattle.tests_model.proofs.changes.prepared.Goals as goal

pub prepare-requires : goal.prepare-requires
prepare-requires c = subst (λ (t : Tables). KeysRise t) (sym c.empty.ensures) rise-no_rows
