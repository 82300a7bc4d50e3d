use Rattle.std.proofs.Common.{◌≡◌, ◌/◌, length, take, drop, arith, ap, sym, ◌∙◌, ◌+ℤ◌, w64}
use Rattle.std.specs.Int.{int_wrap}
use Rattle.std.proofs.lemmas.List.{take-append-drop}
use Rattle.std.proofs.lemmas.Result.{IfOk-weaker}
use Rattle.desk_spans.specs.Minutes.{EachMinute}
use Rattle.desk_spans.specs.Timeline.{Timeline, end_of, value_at}
use Rattle.desk_spans.specs.Pieces.{share, sum_at}
use Rattle.desk_spans.proofs.PieceLemmas.{first_piece, sum_at-alone, sum_at-append}
use Rattle.desk_spans.proofs.Sizes.{wrapped_sums}
use Rattle.desk_spans.proofs.profile.Profile.+sums_of.Goals as goal

pub returns-in-len1-clause-values : goal.returns-in-len1-clause-values
returns-in-len1-clause-values t c =
    let shared : Timeline → Type 0 = λ p. EachMinute c.args.from c.args.to (λ m. value_at p m ≡ share (first_piece c.args.pieces.now) m) in
    let wanted : Timeline → Type 0 = λ p. EachMinute c.args.from c.args.to (λ m. value_at p m ≡ int_wrap w64 (sum_at c.args.pieces.now m)) in
    IfOk-weaker c.of_piece.result shared wanted (λ p values m low high. values m low high ∙ sum_at-alone c.args.pieces.now m (omega arith) c.of_piece.ensures.size) c.of_piece.ensures.values

pub returns-in_ok-back-in_default-clause-values : goal.returns-in_ok-back-in_default-clause-values
returns-in_ok-back-in_default-clause-values t c =
    let added : Timeline → Type 0 = λ p. EachMinute c.in_ok-front-in_default.front.from (end_of c.in_ok-front-in_default.front) (λ m. value_at p m ≡ int_wrap w64 (value_at c.in_ok-front-in_default.front m +ℤ value_at c.in_ok-back-in_default.back m)) in
    let wanted : Timeline → Type 0 = λ p. EachMinute c.args.from c.args.to (λ m. value_at p m ≡ int_wrap w64 (sum_at c.args.pieces.now m)) in
    let each : (p : Timeline) → added p → wanted p = λ p values m low high.
    let middle = length c.args.pieces.now / 2 in
    let front = rw c.split_at.ensures.front at (c.in_ok-front-in_default.ensures.values m low high) in
    let back = rw c.split_at.ensures.back at (c.in_ok-back-in_default.ensures.values m low high) in
    let joined = rw (take-append-drop middle c.args.pieces.now) at (sum_at-append (take middle c.args.pieces.now) (drop middle c.args.pieces.now) m) in
    let sum = values m (omega (arith, c.in_ok-front-in_default.ensures.from)) (omega (arith, c.in_ok-front-in_default.ensures.end)) in
    rw (front, back) at sum ∙ wrapped_sums _ _ ∙ sym (ap (int_wrap w64) joined) in
    IfOk-weaker c.sum_of.result added wanted each c.sum_of.ensures.values
