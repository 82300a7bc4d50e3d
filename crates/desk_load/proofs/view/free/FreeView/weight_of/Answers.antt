use Rattle.std.proofs.Common.{ℕ, ◌+◌, take, refl, sym, arith}
use Rattle.std.specs.Prelude.{sum_by}
use Rattle.desk_base.specs.declared.search.results.Ask.{Ask}
use Rattle.desk_base.specs.meaning.Load.{load}
use Rattle.desk_load.proofs.Staying.{stays_as, sum_more, sum_all}
use Rattle.desk_load.proofs.view.free.FreeView.weight_of.Goals as goal

pub loop-ask-preserved : goal.loop-ask-preserved
loop-ask-preserved c =
    let t = c.args.self.now.tables in
    let r : ℕ = c.args.resource in
    let m : ℕ = c.args.minute in
    let asks = c.args.asks.now in
    let i : ℕ = c.loop-ask.ask-index in
    let s = sum_more (λ (a : Ask) k. load t r k a) m c.loop-ask.sum.value c.load_of.result.value c.loop-ask.sum.until c.load_of.result.until i asks c.ask-item.result c.loop-ask-test.true c.ask-item.is c.loop-ask.invariant.taken c.load_of.ensures.taken in
    let e = c.together-sum.ensures in
    record {
      taken = stays_as _ (λ k. sum_by (λ (a : Ask). load t r k a) (take (i + 1) asks)) m _ c.together-sum.result.value _ c.together-sum.result.until s (omega (arith, s.later, e.until)) (omega (arith, e.until)) (sym e.value) (λ k lo hi. refl);
      small = omega (arith, e.value, c.loop-ask.invariant.small, c.load_of.ensures.small);
    }

pub returns-clause-taken : goal.returns-clause-taken
returns-clause-taken c =
    let t = c.args.self.now.tables in
    let r : ℕ = c.args.resource in
    sum_all (λ (a : Ask) k. load t r k a) c.args.minute c.loop-ask.sum.value c.loop-ask.sum.until c.loop-ask.ask-index c.args.asks.now c.loop-ask-test.false c.loop-ask.invariant.taken
