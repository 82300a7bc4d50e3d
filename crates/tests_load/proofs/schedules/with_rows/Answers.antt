use Rattle.std.proofs.Common.{sym, subst}
use Rattle.desk_base.specs.rows.Lookups.{KeysRise}
use Rattle.desk_base.proofs.tables.KeyRises.{rise-with_change}
use Rattle.tests_load.proofs.schedules.with_rows.Goals as goal

pub returns-in-Ok : goal.returns-in-Ok
returns-in-Ok c = subst KeysRise (sym (c.apply.ensures)) (rise-with_change c.in-Ok.prepared.tables c.in-Ok.prepared.change (subst KeysRise (sym c.in-Ok.ensures.tables) c.requires))
