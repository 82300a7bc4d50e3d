use Rattle.std.proofs.Common.{◌≡◌, IsSomeAnd}
use Rattle.desk_gate.specs.Passes.{view, IsOf}
use Rattle.tests_gate.proofs.callers.take_turns.Given as goal

abbrev pub invariant-loop-serial : goal.invariant-loop-serial
invariant-loop-serial g l = IsSomeAnd l.caller.pass (λ p. IsOf l.gate p × ((view p).share ≡ l.share))
