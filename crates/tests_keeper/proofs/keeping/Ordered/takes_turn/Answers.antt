use Rattle.tests_keeper.proofs.keeping.Ordered.takes_turn.Goals as goal

pub takes_turn-requires : goal.takes_turn-requires
takes_turn-requires c = c.self.invariant

pub invariant_of-self : goal.invariant_of-self
invariant_of-self c = c.takes_turn.ensures
