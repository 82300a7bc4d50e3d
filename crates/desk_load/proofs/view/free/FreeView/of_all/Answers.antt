use Rattle.std.proofs.Common.{length, sym, ap, ◌∙◌, arith}
use Rattle.desk_load.proofs.Among.{nothing_own}
use Rattle.desk_load.proofs.view.free.FreeView.of_all.Goals as goal

pub invariant_of-result : goal.invariant_of-result
invariant_of-result c = (c.requires.well_formed, c.requires.index, c.new.ensures.items ∙ sym (nothing_own c.args.tables.now), omega (arith, ap length c.new-2.ensures.items))
