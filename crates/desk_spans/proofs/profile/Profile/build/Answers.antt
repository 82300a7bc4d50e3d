use Rattle.std.proofs.Common.{◌≡◌, ◌∙◌, arith, w64}
use Rattle.std.specs.Int.{int_wrap}
use Rattle.std.proofs.lemmas.Int.{ints, int_wrap_fits}
use Rattle.std.proofs.lemmas.Result.{IfOk-weaker}
use Rattle.desk_spans.specs.Minutes.{EachMinute}
use Rattle.desk_spans.specs.Timeline.{Timeline, value_at}
use Rattle.desk_spans.specs.Pieces.{sum_at}
use Rattle.desk_spans.proofs.profile.Profile.build.Goals as goal

pub returns-clause-sums : goal.returns-clause-sums
returns-clause-sums c =
    let held : Timeline → Type 0 = λ p. EachMinute c.args.from c.args.to (λ m. value_at p m ≡ int_wrap w64 (sum_at c.args.pieces.now m)) in
    let wanted : Timeline → Type 0 = λ p. EachMinute c.args.from c.args.to (λ m. value_at p m ≡ sum_at c.args.pieces.now m) in
    let each : (p : Timeline) → held p → wanted p = λ p values m low high.
    values m low high ∙ int_wrap_fits w64 _ (omega (arith, ints, c.requires.bounds m low high)) in
    IfOk-weaker c.sums_of.result held wanted each c.sums_of.ensures.values
