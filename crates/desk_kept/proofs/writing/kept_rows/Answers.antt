use Rattle.desk_kept.proofs.KeptTables.{horizons}
use Rattle.desk_kept.proofs.writing.kept_rows.Goals as goal

pub write_tables-requires : goal.write_tables-requires
write_tables-requires c = horizons c.args.tables.now c.requires
