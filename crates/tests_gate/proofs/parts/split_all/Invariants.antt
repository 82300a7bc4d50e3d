use Rattle.tests_gate.specs.Parts.{AreOut}
use Rattle.tests_gate.proofs.parts.split_all.Given as goal

abbrev pub invariant-loop : goal.invariant-loop
invariant-loop l = AreOut l.gate l.pass l.parts.items
