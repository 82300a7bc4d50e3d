use Rattle.std.proofs.Common.{◌≡◌, refl, sym, subst, ◌∙◌, ap, length, arith}
use Rattle.std.proofs.lemmas.Grind.{common_steps}
use Rattle.std.specs.Prelude.{Contains}
use Rattle.desk_pruned.proofs.cutting.Standing.{offered_is, not_offered}
use Rattle.desk_pruned.proofs.begin.try_push.Goals as goal

pub returns-then-not-offers-clause-tried : goal.returns-then-not-offers-clause-tried
returns-then-not-offers-clause-tried g c =
    let w = g.S.Explored.ways c.args.space.now in
    let size : c.len.result ≡ length c.args.trail.now.picks.items = grind (arith, common_steps) in (
      (λ live. not_offered c.choices.result.now c.args.pick.now c.offers.result c.offers.ensures c.if-not-offers.true
          (subst (λ l. Contains l c.args.pick.now) (sym (c.choices.ensures ∙ ap w.choices size)) (c.requires.sound.offered c.args.trail.now.start c.args.trail.now.picks.items c.args.pick.now live))),
      refl,
    )

pub can_push-requires-clause-offered : goal.can_push-requires-clause-offered
can_push-requires-clause-offered g c =
    let w = g.S.Explored.ways c.args.space.now in
    let size : c.len.result ≡ length c.args.trail.now.picks.items = grind (arith, common_steps) in
    subst (λ l. Contains l c.args.pick.now) (c.choices.ensures ∙ ap w.choices (size ∙ ap length (sym c.as_slice.ensures.value))) (offered_is c.choices.result.now c.args.pick.now c.offers.result c.offers.ensures c.if-not-offers.false)
