use Rattle.std.proofs.Common.{sym, subst}
use Rattle.desk_base.specs.rules.Sound.{IsSound}
use Rattle.desk_batch.proofs.StoreSound.{store_sound}
use Rattle.desk_batch.proofs.program.open.Goals as goal

pub over-requires : goal.over-requires
over-requires c = subst IsSound (sym c.in_ok-tables.ensures) (store_sound c.args.store)
