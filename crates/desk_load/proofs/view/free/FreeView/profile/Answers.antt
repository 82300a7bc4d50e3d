use Rattle.std.proofs.Common.{◌∙◌, arith, inl, inr}
use Rattle.std.proofs.lemmas.Bool.{cases_lt}
use Rattle.std.proofs.lemmas.Int.{ints, clamps}
use Rattle.desk_load.proofs.view.free.FreeView.profile.Goals as goal

pub loop-minute-preserved : goal.loop-minute-preserved
loop-minute-preserved c =
    let laid = c.in-Ok-lay.ensures in
    let inv = c.loop-minute.invariant in
    let s = c.measure-steady.ensures in
    record {
      begun = laid.from ∙ inv.begun;
      end = laid.end;
      low = omega (arith, inv.low, s.value.later, c.min-until.ensures);
      high = omega (arith, c.min-until.ensures);
      values = λ m low high. elim (cases_lt m c.loop-minute.minute) [
        | inl before ↦ laid.before m (omega (arith, inv.begun)) (omega (arith, inv.end, before)) ∙ inv.values m low before
        | inr here ↦ omega (arith, ints, clamps, s.small, laid.level m (omega (arith, inv.end, here)) high, s.value.value_at m here (omega (arith, high, c.min-until.ensures)))
      ];
    }
