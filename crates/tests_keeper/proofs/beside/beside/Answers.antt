use Rattle.std.proofs.Common.{sym, subst}
use Rattle.std.specs.List.{All}
use Rattle.desk_base.specs.declared.asked.acts.Change.{Change}
use Rattle.desk_keeper.specs.Keepable.{IsKeepable}
use Rattle.tests_keeper.proofs.beside.beside.Goals as goal

pub keeps-requires-clause-rows : goal.keeps-requires-clause-rows
keeps-requires-clause-rows g c = subst (λ (change : Change). All IsKeepable change.puts) (sym c.change.ensures) c.requires.rows
