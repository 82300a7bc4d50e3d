use Rattle.std.proofs.Common.{◌≤◌, ◌<◌, length, sym, ◌∙◌, subst, arith}
use Rattle.std.proofs.lemmas.List.{take_all}
use Rattle.std.specs.Prelude.{Contains}
use Rattle.tests_pruned.specs.Sound.{IsPlaced}
use Rattle.tests_pruned.proofs.Sounding.{one_more}
use Rattle.tests_pruned.proofs.sound.all_are_placed.Goals as goal

pub loop-position-preserved : goal.loop-position-preserved
loop-position-preserved c =
    let i = c.loop-position.position-index in
    let xs = c.as_slice-position-items.result.now in
    let inside : i < length xs = omega arith in
    (c.loop-position.invariant.0, one_more (IsPlaced c.args.listed.now) xs i c.position-item.result inside c.position-item.is c.loop-position.invariant.1 (c.is_placed.ensures c.if-not-is_placed.false))

pub returns : goal.returns
returns c = λ e x h.
    let outside : length c.as_slice-position-items.result.now ≤ c.loop-position.position-index = omega arith in
    c.loop-position.invariant.1 x (subst (λ l. Contains l x) (sym (take_all c.loop-position.position-index c.as_slice-position-items.result.now outside ∙ c.loop-position.invariant.0)) h)
