use Rattle.std.proofs.Common.{◌∷◌, [], ◌++◌, sym, subst, arith, length-append}
use Rattle.desk_feasible.specs.Live.{HasLaid}
use Rattle.desk_feasible.proofs.Growing.{begun_length}
use Rattle.desk_feasible.proofs.Laying.{lay_none}
use Rattle.desk_feasible.proofs.lives.laying.lay.Goals as goal

pub leaf_at-leaf-requires : goal.leaf_at-leaf-requires
leaf_at-leaf-requires c =
    let few = begun_length c.args.case.now (c.args.picks.now ++ c.args.pick.now ∷ []) c.requires.ready c.requires.placed.pattern in
    omega (arith, few, length-append c.args.picks.now (c.args.pick.now ∷ []))

pub returns-in-None-clause-ok : goal.returns-in-None-clause-ok
returns-in-None-clause-ok c =
    let few = begun_length c.args.case.now (c.args.picks.now ++ c.args.pick.now ∷ []) c.requires.ready c.requires.placed.pattern in
    subst (λ x. HasLaid c.args.case.now c.args.view.now c.args.start (c.args.picks.now ++ x ∷ [])) (sym c.in-None.is)
    (lay_none c.args.case.now c.args.view.now c.args.start c.args.picks.now c.requires.laid (omega (arith, few, length-append c.args.picks.now (c.args.pick.now ∷ []))))
