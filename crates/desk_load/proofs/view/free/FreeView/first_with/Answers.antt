use Rattle.std.proofs.Common.{ap, ◌∙◌, subst}
use Rattle.desk_base.specs.rules.Sound.{AreWellFormed}
use Rattle.desk_load.specs.Views.{ViewParts}
use Rattle.desk_load.specs.Shown.{first_of}
use Rattle.desk_load.proofs.Least.{first_more}
use Rattle.desk_load.proofs.view.free.FreeView.first_with.Goals as goal

pub returns : goal.returns
returns c seen e =
    let v = c.args.self.now in
    let w : AreWellFormed v.tables = subst (λ (v : ViewParts). AreWellFormed v.tables) c.self.view_is c.self.invariant.0 in
    first_more v c.args.place.now w seen c.args.resource c.args.found c.first_of.result c.least.result e (c.first_of.ensures ∙ ap (first_of v c.args.place.now) c.standing_on.ensures) c.least.ensures
