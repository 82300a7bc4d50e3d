use Rattle.std.proofs.Common.{rules, arith, inl, inr}
use Rattle.std.proofs.lemmas.Bool.{cases_lt}
use Rattle.std.proofs.lemmas.Int.{ints, clamps, by_lt_z}
use Rattle.desk_spans.proofs.Walks.{Walks, stretch_at, first_there, walk_value, walk_on, walk_end}
use Rattle.desk_spans.proofs.profile.Profile.least_on.Goals as goal

pub loop-stretch-init : goal.loop-stretch-init
loop-stretch-init c =
    let walks : Walks c.args.self.now c.args.from c.args.from c.stretches_from-stretches.result.now = search rules in
    let there = first_there _ _ _ c.stretches_from-stretches.ensures.fill (omega arith) in
    let end = walk_end _ _ _ _ 0 there walks in
    record {
      walks = walks;
      bound = λ m low high inside. absurd (omega arith);
      reached = (c.args.from, omega arith, omega arith, omega (arith, ints, walk_value _ _ _ _ 0 there walks c.args.from (omega arith) end.0));
    }

pub loop-stretch-preserved : goal.loop-stretch-preserved
loop-stretch-preserved c =
    let walks = c.loop-stretch.invariant.walks in
    let there = c.loop-stretch-test.true in
    let end = walk_end _ _ _ _ _ there walks in
    record {
      walks = walk_on _ _ _ _ _ there walks;
      bound = λ m low high inside. elim (cases_lt m c.loop-stretch.start) [
        | inl before ↦ omega (arith, ints, clamps, c.loop-stretch.invariant.bound m low before inside)
        | inr here ↦ omega (arith, ints, clamps, walk_value _ _ _ _ _ there walks m here high)
      ];
      reached = by_lt_z (stretch_at c.stretches_from-stretches.result.now c.loop-stretch.stretch-index).value c.loop-stretch.least
          (λ less. (c.loop-stretch.start, omega (arith, walks.begun), omega arith, omega (arith, ints, clamps, less, walk_value _ _ _ _ _ there walks c.loop-stretch.start (omega arith) end.0)))
          (λ more. (c.loop-stretch.invariant.reached.0, omega arith, omega arith, omega (arith, ints, clamps, more, c.loop-stretch.invariant.reached)));
    }
