use Rattle.std.proofs.Common.{Ok}
use Rattle.desk_kept.proofs.ReadTables.{tables_in}
use Rattle.desk_kept.proofs.loading.migrate.Goals as goal

pub write_tables-requires : goal.write_tables-requires
write_tables-requires c = tables_in c.args.rows.now c.in_ok-tables.tables c.in_ok-tables.ensures
