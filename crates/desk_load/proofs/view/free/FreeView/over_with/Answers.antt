use Rattle.std.proofs.Common.{ℕ, ◌<◌, ◌++◌, ◌∷◌, [], sym, subst}
use Rattle.desk_load.specs.Overs.{IsOverAmong, end_of_search}
use Rattle.desk_load.proofs.Among.{among_new, search_inside}
use Rattle.desk_load.proofs.view.free.FreeView.over_with.Goals as goal

pub returns-in-Some : goal.returns-in-Some
returns-in-Some c seen f =
    let t = c.args.self.now.tables in
    let r : ℕ = c.args.resource in
    let found = c.args.found in
    let m : ℕ = c.in-Some.minute in
    let e = c.in-Some.ensures in
    let high : m < end_of_search found = subst (λ n. m < n) c.end_of_search.ensures e.high in
    subst (IsOverAmong t (seen ++ r ∷ [])) (sym c.earlier.ensures) (among_new t seen r found m e.low high (search_inside found c.requires) e.over e.before f)
