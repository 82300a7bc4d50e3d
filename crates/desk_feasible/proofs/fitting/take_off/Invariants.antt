use Rattle.std.proofs.Common.{◌≡◌, ◌-◌, length, take}
use Rattle.desk_feasible.proofs.fitting.take_off.Given as goal

abbrev pub invariant-loop : goal.invariant-loop
invariant-loop l = record {
  tables : l.view.tables ≡ l.fn.view.tables;
  without : l.view.without ≡ l.fn.view.without;
  rest : l.view.overlay ≡ take (length l.fn.view.overlay - l.counter) l.fn.view.overlay;
}
