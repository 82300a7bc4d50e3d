use Rattle.std.proofs.Common.{subst}
use Rattle.desk_base.specs.declared.asked.acts.Act.{Act}
use Rattle.desk_base.specs.changes.Changes.{with_change, without_key}
use Rattle.desk_load.proofs.Keeping.{index_kept}
use Rattle.desk_core.specs.Entered.{IsOf}
use Rattle.desk_core.proofs.entering.changed.Goals as goal

pub removed-requires-clause-index : goal.removed-requires-clause-index
removed-requires-clause-index c =
    let of = subst (λ (a : Act). IsOf c.args.tables a c.args.change) c.in-Remove.is c.requires.can_be_entered.of in
    index_kept (with_change c.args.tables c.args.change) (without_key c.args.tables c.in-Remove.key) c.args.index.after of.1 c.requires.index
