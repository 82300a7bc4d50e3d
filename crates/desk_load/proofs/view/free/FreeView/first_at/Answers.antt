use Rattle.std.proofs.Common.{[], ◌∷◌, sym, ap, ◌∙◌, subst}
use Rattle.desk_base.specs.rules.Sound.{AreWellFormed}
use Rattle.desk_load.specs.Views.{ViewParts}
use Rattle.desk_load.specs.Shown.{first_on, bearing_by}
use Rattle.desk_load.proofs.Least.{first_nothing, first_whole}
use Rattle.desk_load.proofs.view.free.FreeView.first_at.Goals as goal

pub returns-in-Plain : goal.returns-in-Plain
returns-in-Plain c =
    let v = c.args.self.now in
    let p = c.args.place.now in
    let w : AreWellFormed v.tables = subst (λ (v : ViewParts). AreWellFormed v.tables) c.self.view_is c.self.invariant.0 in
    c.first_with_plain.ensures [] (first_nothing v p) ∙ ap (λ s. first_on v p (bearing_by s v.tables p.resource p.minute)) (sym c.in-Plain.ensures) ∙ first_whole v p w

pub returns-in-Crew : goal.returns-in-Crew
returns-in-Crew c =
    let v = c.args.self.now in
    let p = c.args.place.now in
    let w : AreWellFormed v.tables = subst (λ (v : ViewParts). AreWellFormed v.tables) c.self.view_is c.self.invariant.0 in
    c.first_with.ensures [] (first_nothing v p) ∙ ap (λ s. first_on v p (bearing_by s v.tables p.resource p.minute)) (sym c.in-Crew.ensures) ∙ first_whole v p w

pub returns-in-Pool : goal.returns-in-Pool
returns-in-Pool c =
    let v = c.args.self.now in
    let p = c.args.place.now in
    let w : AreWellFormed v.tables = subst (λ (v : ViewParts). AreWellFormed v.tables) c.self.view_is c.self.invariant.0 in
    c.first_with_members.ensures (p.resource ∷ []) (c.first_with-found.ensures [] (first_nothing v p)) ∙ ap (λ s. first_on v p (bearing_by s v.tables p.resource p.minute)) (sym c.in-Pool.ensures) ∙ first_whole v p w

pub returns-in-Unknown : goal.returns-in-Unknown
returns-in-Unknown c =
    let v = c.args.self.now in
    let p = c.args.place.now in
    let w : AreWellFormed v.tables = subst (λ (v : ViewParts). AreWellFormed v.tables) c.self.view_is c.self.invariant.0 in
    first_nothing v p ∙ ap (λ s. first_on v p (bearing_by s v.tables p.resource p.minute)) (sym c.in-Unknown.ensures) ∙ first_whole v p w
