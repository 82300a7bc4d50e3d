use Rattle.std.proofs.Common.{sym, ◌∙◌, ap, Some, None, ◌≡◌}
use Rattle.matchit.specs.Seek.{first}
use Rattle.desk_route.proofs.Paths.{is_path, is_found}
use Rattle.desk_route.proofs.routes.route_in.Goals as goal

pub returns-in-Ok : goal.returns-in-Ok
returns-in-Ok c = (c.utf8.path, is_path c.args.path.now _ (sym (ap (λ rows. first rows c.args.path.now) c.requires) ∙ c.in-Ok.ensures.found))

pub returns-in-Err : goal.returns-in-Err
returns-in-Err c = λ route utf8 is.
    let found = is_found route c.args.path.now is in
    let none = sym (ap (λ rows. first rows c.args.path.now) c.requires) ∙ c.in-Err.ensures.missing in
    let f : None ≡ Some found.0 = sym none ∙ found.1 in
    absurd (cc)
