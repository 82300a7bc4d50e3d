use Rattle.std.proofs.Common.{◌≤◌, ◌*◌, ◌^◌, take}
use Rattle.std.specs.Prelude.{sum_by}
use Rattle.desk_base.specs.declared.search.results.Ask.{Ask}
use Rattle.desk_base.specs.meaning.Load.{load}
use Rattle.desk_load.specs.Steady.{Stays}
use Rattle.desk_load.proofs.view.free.FreeView.weight_of.Given as goal

abbrev pub invariant-loop-ask : goal.invariant-loop-ask
invariant-loop-ask l = record {
  taken : Stays (λ k. sum_by (λ (a : Ask). load l.self.tables l.resource k a) (take l.ask-index l.asks)) l.minute l.sum.value l.sum.until;
  small : l.sum.value ≤ l.ask-index * 2 ^ 48;
}
