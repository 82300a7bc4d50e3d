use Rattle.tests_keeper.proofs.keeping.Ordered.empty.Goals as goal

pub invariant_of-result : goal.invariant_of-result
invariant_of-result c = c.in_ok-keeper.ensures
