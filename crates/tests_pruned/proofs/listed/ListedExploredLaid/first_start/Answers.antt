use Rattle.std.proofs.Common.{subst}
use Rattle.tests_pruned.specs.Listed.{IsFirstAmong}
use Rattle.tests_pruned.proofs.Among.{is_first_start}
use Rattle.tests_pruned.proofs.listed.ListedExploredLaid.first_start.Goals as goal

pub returns-clause-first : goal.returns-clause-first
returns-clause-first g c = is_first_start c.args.self.now c.args.pick.now c.args.from c.first_among.result (subst (λ l. IsFirstAmong l c.args.pick.now c.args.from c.first_among.result) c.as_slice.ensures c.first_among.ensures)
