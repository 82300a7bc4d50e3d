use Rattle.std.proofs.Common.{◌∙◌, inl, inr, sym, arith, rules, FitsSigned, w64}
use Rattle.std.proofs.lemmas.Bool.{cases_lt}
use Rattle.std.proofs.lemmas.Int.{to_z-of_z}
use Rattle.desk_spans.proofs.PieceLemmas.{share_inside, share_before, share_behind}
use Rattle.desk_spans.proofs.profile.Profile.of_piece.Goals as goal

pub returns-clause-values : goal.returns-clause-values
returns-clause-values c m from to =
    let fits : FitsSigned w64 c.args.piece.value = search rules in
    let third = c.in_ok-lay-3.ensures in
    let second = c.in_ok-lay-2.ensures in
    let first = c.in_ok-lay.ensures in
    elim (cases_lt m c.min-start.result) [
      | inl before ↦
          third.before m (omega arith) (omega arith) ∙ second.before m (omega arith) (omega arith) ∙ first.level m (omega arith) (omega arith)
          ∙ sym (share_before c.args.piece m (omega arith))
      | inr begun ↦ elim (cases_lt m c.min-end.result) [
        | inl within ↦
            third.before m (omega arith) (omega arith) ∙ second.level m (omega arith) (omega arith) ∙ to_z-of_z w64 _ fits
            ∙ sym (share_inside c.args.piece m (omega arith) (omega arith))
        | inr behind ↦ third.level m (omega arith) (omega arith) ∙ sym (share_behind c.args.piece m (omega arith))
      ]
    ]
