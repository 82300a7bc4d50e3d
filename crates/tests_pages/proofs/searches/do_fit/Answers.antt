use Rattle.std.proofs.Common.{◌∙◌}
use Rattle.tests_pages.proofs.Everyone.{none_else}
use Rattle.tests_pages.proofs.searches.do_fit.Goals as goal

pub clash_standing-requires-clause-others : goal.clash_standing-requires-clause-others
clash_standing-requires-clause-others c = none_else c.args.tables.now c.as_slice.result.now (c.as_slice.ensures.value ∙ c.in_ok-suspects.ensures)
