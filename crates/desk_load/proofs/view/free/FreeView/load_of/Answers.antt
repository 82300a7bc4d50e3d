use Rattle.std.proofs.Common.{ℕ, ◌∙◌, sym, ap, arith}
use Rattle.desk_base.specs.meaning.Load.{load}
use Rattle.desk_load.specs.Views.{demand_at}
use Rattle.desk_load.proofs.Used.{load_covered, load_missed, not_true, not_false}
use Rattle.desk_load.proofs.view.free.FreeView.load_of.Goals as goal

pub returns-then-not-covered-clause-taken : goal.returns-then-not-covered-clause-taken
returns-then-not-covered-clause-taken c =
    let t = c.args.self.now.tables in
    let a = c.args.ask.now in
    let e = c.is_covered-covered.ensures in
    record { later = e.later; inside = e.inside; value_at = λ k lo hi. load_missed t a k c.args.resource (e.value_at k lo hi ∙ not_true _ c.if-not-covered.true) }

pub returns-clause-taken : goal.returns-clause-taken
returns-clause-taken c =
    let t = c.args.self.now.tables in
    let a = c.args.ask.now in
    let r : ℕ = c.args.resource in
    let e = c.is_covered-covered.ensures in
    let s = c.use_of-taken.ensures.taken in
    record {
      later = omega (arith, e.later, s.later, c.min.ensures);
      inside = omega (arith, e.inside, c.min.ensures);
      value_at = λ k lo hi. load_covered t a k r (e.value_at k lo (omega (arith, hi, c.min.ensures)) ∙ not_false _ c.if-not-covered.false) ∙ ap (λ d. load t r k (demand_at d k)) (sym c.demand_of.ensures) ∙ s.value_at k lo (omega (arith, hi, c.min.ensures));
    }
