use Rattle.desk_gate.specs.Passes.{IsOf}
use Rattle.desk_gate_bench.proofs.take_turns.Given as goal

abbrev pub invariant-loop : goal.invariant-loop
invariant-loop g l = IsOf l.gate l.pass
