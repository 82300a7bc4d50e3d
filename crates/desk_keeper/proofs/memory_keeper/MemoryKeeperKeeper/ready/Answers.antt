use Rattle.std.proofs.Common.{ap, sym, subst}
use Rattle.desk_base.specs.rows.Lookups.{KeysRise}
use Rattle.desk_keeper.proofs.memory_keeper.MemoryKeeperKeeper.ready.Goals as goal

pub prepare-requires : goal.prepare-requires
prepare-requires c = subst KeysRise (sym (ap (λ k. k.kept.tables) c.self.view_is)) c.requires
