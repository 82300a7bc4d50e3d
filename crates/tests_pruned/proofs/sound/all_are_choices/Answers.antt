use Rattle.std.proofs.Common.{◌≤◌, ◌<◌, length, sym, ◌∙◌, subst, arith}
use Rattle.std.proofs.lemmas.List.{take_all}
use Rattle.std.specs.Prelude.{Contains}
use Rattle.tests_pruned.specs.Sound.{AreChoices}
use Rattle.tests_pruned.proofs.Sounding.{one_more}
use Rattle.tests_pruned.proofs.sound.all_are_choices.Goals as goal

pub loop-choices-preserved : goal.loop-choices-preserved
loop-choices-preserved c =
    let i = c.loop-choices.choices-index in
    let xs = c.as_slice-choices-items.result.now in
    let inside : i < length xs = omega arith in
    (c.loop-choices.invariant.0, one_more (AreChoices c.args.listed.now) xs i c.choices-item.result inside c.choices-item.is c.loop-choices.invariant.1 (subst (AreChoices c.args.listed.now) c.as_slice.ensures (c.are_choices.ensures c.if-not-are_choices.false)))

pub returns : goal.returns
returns c = λ e x h.
    let outside : length c.as_slice-choices-items.result.now ≤ c.loop-choices.choices-index = omega arith in
    c.loop-choices.invariant.1 x (subst (λ l. Contains l x) (sym (take_all c.loop-choices.choices-index c.as_slice-choices-items.result.now outside ∙ c.loop-choices.invariant.0)) h)
