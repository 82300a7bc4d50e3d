use Rattle.std.proofs.Common.{sym, ap, subst, ◌∙◌}
use Rattle.desk_base.specs.declared.rows.tables.Tables.{Tables}
use Rattle.desk_base.specs.rows.Lookups.{KeysRise}
use Rattle.desk_base.proofs.tables.KeyRises.{rise-no_rows}
use Rattle.tests_keeper.proofs.keeping.empty_keeper.Goals as goal

pub returns-in-Ok : goal.returns-in-Ok
returns-in-Ok c = subst (λ (t : Tables). KeysRise t) (sym (ap (λ k. k.kept.tables) c.in-Ok.ensures ∙ c.empty-tables.ensures)) rise-no_rows
