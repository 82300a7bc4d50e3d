use Rattle.std.proofs.Common.{◌∷◌, [], ◌++◌, subst}
use Rattle.desk_feasible.specs.Live.{HasLaid}
use Rattle.desk_feasible.proofs.Laying.{take_none, take_some}
use Rattle.desk_feasible.proofs.lives.laying.take_up.Goals as goal

pub returns-in-None : goal.returns-in-None
returns-in-None c = record { laid = take_none c.args.case.now c.args.view.now c.args.start c.args.picks.now (subst (λ x. HasLaid c.args.case.now c.args.view.now c.args.start (c.args.picks.now ++ x ∷ [])) c.in-None.is c.requires.laid) }

pub returns-in-Some : goal.returns-in-Some
returns-in-Some c = record { laid = take_some c.args.case.now c.args.view.now c.overlay_pop.new.self c.args.start c.args.picks.now c.in-Some.field-0 c.overlay_pop.ensures.tables c.overlay_pop.ensures.without (subst (λ x. HasLaid c.args.case.now c.args.view.now c.args.start (c.args.picks.now ++ x ∷ [])) c.in-Some.is c.requires.laid) c.overlay_pop.ensures.shorter }
