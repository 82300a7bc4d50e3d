use Rattle.std.proofs.Common.{◌≡◌, ◌++◌, take}
use Rattle.desk_load.specs.Views.{other_asks}
use Rattle.desk_load.specs.Clashes.{IsFirstOver}
use Rattle.desk_load.proofs.view.free.FreeView.lay_all.Given as goal

abbrev pub invariant-loop-ask : goal.invariant-loop-ask
invariant-loop-ask l = record {
  tables : l.self.tables ≡ l.fn.self.tables;
  without : l.self.without ≡ l.fn.self.without;
  laid : l.self.overlay ≡ take l.ask-index l.asks;
  first : IsFirstOver l.fn.self.tables (other_asks l.fn.self.tables l.fn.self.without ++ take l.ask-index l.asks) l.found;
}
