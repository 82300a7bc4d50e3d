use Rattle.std.proofs.Common.{[], sym, subst}
use Rattle.std.specs.Prelude.{Contains}
use Rattle.desk_pruned.proofs.cutting.Standing.{offered_is, not_offered}
use Rattle.desk_pruned.proofs.begin.try_root.Goals as goal

pub returns-then-not-offers-clause-tried : goal.returns-then-not-offers-clause-tried
returns-then-not-offers-clause-tried g c = (
  (λ live. not_offered c.choices.result.now c.args.pick.now c.offers.result c.offers.ensures c.if-not-offers.true
      (subst (λ l. Contains l c.args.pick.now) (sym c.choices.ensures) (c.requires.sound.offered c.args.trail.now.start [] c.args.pick.now live))),
  c.requires.nothing,
)

pub first_start-requires-clause-offered : goal.first_start-requires-clause-offered
first_start-requires-clause-offered g c = subst (λ l. Contains l c.args.pick.now) c.choices.ensures (offered_is c.choices.result.now c.args.pick.now c.offers.result c.offers.ensures c.if-not-offers.false)
