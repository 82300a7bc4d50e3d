use Rattle.std.proofs.Common.{◌<◌, ◌++◌, ◌∷◌, [], sym, ap, subst, ◌∙◌}
use Rattle.std.proofs.lemmas.List.{append-nil}
use Rattle.desk_member.specs.declared.spans.MemberSpan.{MemberSpan}
use Rattle.desk_member.proofs.Adding.{on_ok}
use Rattle.desk_member.proofs.SpanLemmas.{one_span, no_span}
use Rattle.desk_member.proofs.spans.add_span.Goals as goal

pub returns-in-Some : goal.returns-in-Some
returns-in-Some c =
    let l = subst (λ (s : MemberSpan). s.from < s.to) c.in-Some.ensures.some c.in-Some.ensures.not_empty in
    on_ok c.push.result _ _ (λ e. e ∙ ap (λ s. c.args.spans.now ++ s ∷ []) c.in-Some.ensures.some ∙ ap (λ ss. c.args.spans.now ++ ss) (sym (one_span c.args.window.now c.args.row.now l))) c.push.ensures.ok

pub returns-in-None : goal.returns-in-None
returns-in-None c = sym (ap (λ ss. c.args.spans.now ++ ss) (no_span c.args.window.now c.args.row.now c.in-None.ensures.none) ∙ append-nil c.args.spans.now)
