use Rattle.std.proofs.Common.{◌∙◌}
use Rattle.desk_bench.proofs.Everyone.{none_else}
use Rattle.desk_bench.proofs.ready.do_fit.Goals as goal

pub clash_standing-requires-clause-others : goal.clash_standing-requires-clause-others
clash_standing-requires-clause-others c = none_else c.args.tables.now c.as_slice.result.now (c.as_slice.ensures.value ∙ c.in_ok-all.ensures)
