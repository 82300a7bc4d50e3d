use Rattle.std.proofs.Common.{inl, inr, subst, arith}
use Rattle.std.proofs.lemmas.Bool.{cases_lt}
use Rattle.desk_load.specs.Scans.{IsShortAt}
use Rattle.desk_load.proofs.view.free.FreeView.gap_in.Goals as goal

pub returns-in-Some-clause-short : goal.returns-in-Some-clause-short
returns-in-Some-clause-short c k lo hi = subst (IsShortAt c.args.self.now c.args.demand.now k) c.in-Some.is (c.short_at-scan.ensures.short k lo hi)

pub loop-minute-preserved : goal.loop-minute-preserved
loop-minute-preserved c = record {
  low = omega (arith, c.loop-minute.invariant.low, c.short_at-scan.ensures.later);
  room = λ k lo hi. elim (cases_lt k c.loop-minute.minute) [
    | inl before ↦ c.loop-minute.invariant.room k lo before
    | inr here ↦ subst (IsShortAt c.args.self.now c.args.demand.now k) c.in-None.is (c.short_at-scan.ensures.short k here hi)
  ];
}
