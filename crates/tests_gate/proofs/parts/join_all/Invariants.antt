use Rattle.tests_gate.specs.Parts.{AreOut}
use Rattle.tests_gate.proofs.parts.join_all.Given as goal

abbrev pub invariant-loop-serial : goal.invariant-loop-serial
invariant-loop-serial g l = AreOut l.gate l.pass l.parts.items
