use Rattle.std.proofs.Common.{sym}
use Rattle.desk_base.specs.changes.Changes.{without_key}
use Rattle.desk_load.specs.Changed.{parts_of}
use Rattle.desk_load.proofs.Keeping.{keep_out}
use Rattle.desk_load.proofs.Following.{phase_kept}
use Rattle.desk_load.proofs.changes.opened.OpenIndex.take_out_key.Goals as goal

pub returns-then-not-is_indexed-clause-out : goal.returns-then-not-is_indexed-clause-out
returns-then-not-is_indexed-clause-out c s more h =
    let k = c.args.key.now in
    phase_kept c.args.tables.now s (without_key s k) c.args.phase more (parts_of c.args.self.now) (keep_out s k.table k (sym c.if-not-is_indexed.ensures)) h
