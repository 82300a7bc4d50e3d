use Rattle.std.proofs.Common.{◌≡◌, ◌++◌, ◌+◌, ◌≤◌, take}
use Rattle.desk_base.specs.meaning.Load.{Fits}
use Rattle.desk_load.specs.Views.{other_asks}
use Rattle.desk_feasible.proofs.fitting.lay_free.Given as goal

abbrev pub invariant-loop-ask : goal.invariant-loop-ask
invariant-loop-ask g l = record {
  tables : l.view.tables ≡ l.fn.view.tables;
  without : l.view.without ≡ l.fn.view.without;
  laid : l.view.overlay ≡ take l.ask-index l.asks;
  fits : Fits l.fn.view.tables (other_asks l.fn.view.tables l.fn.view.without ++ take l.ask-index l.asks);
  steps : l.steps ≤ l.fn.steps + l.ask-index;
}
