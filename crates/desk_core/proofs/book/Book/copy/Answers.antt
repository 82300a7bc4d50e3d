use Rattle.std.proofs.Common.{sym, subst}
use Rattle.desk_base.specs.rules.Sound.{AreWellFormed}
use Rattle.desk_base.proofs.tables.Sounds.{well_formed}
use Rattle.desk_core.proofs.book.Book.copy.Goals as goal

pub build-requires : goal.build-requires
build-requires c = subst AreWellFormed (sym c.in_ok-tables.ensures) (well_formed c.self.inside.view.tables c.self.invariant.0.sound)
