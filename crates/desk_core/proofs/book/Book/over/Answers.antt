use Rattle.desk_base.proofs.tables.Sounds.{well_formed}
use Rattle.desk_core.proofs.book.Book.over.Goals as goal

pub of-requires : goal.of-requires
of-requires c = well_formed c.args.tables c.requires
