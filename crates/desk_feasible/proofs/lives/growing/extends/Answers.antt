use Rattle.std.proofs.Common.{◌∷◌, [], ◌++◌, sym, subst}
use Rattle.desk_feasible.specs.Live.{IsPlaced}
use Rattle.desk_feasible.proofs.Growing.{skips, skipped}
use Rattle.desk_feasible.proofs.lives.growing.extends.Goals as goal

pub returns-in-None-clause-placed : goal.returns-in-None-clause-placed
returns-in-None-clause-placed g c =
    let a = c.args.case.now in (
      λ e. subst (λ x. IsPlaced a.tables a.group c.args.start (c.args.picks.now ++ x ∷ [])) (sym c.in-None.is) (skips a.tables a.group c.args.start c.args.picks.now c.requires.placed (c.goes_on.ensures.0 e)),
      λ h. c.goes_on.ensures.1 (skipped a.tables a.group c.args.start c.args.picks.now c.requires.placed (subst (λ x. IsPlaced a.tables a.group c.args.start (c.args.picks.now ++ x ∷ [])) c.in-None.is h)),
    )
