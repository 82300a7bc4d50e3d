use Rattle.std.proofs.Common.{Some, subst}
use Rattle.desk_load.specs.Overs.{IsFirstAmong}
use Rattle.desk_load.proofs.Among.{among_whole, over_in_view, conflict_in_view}
use Rattle.desk_load.proofs.view.clash.clash_standing.Goals as goal

pub clash_at-requires-clause-over : goal.clash_at-requires-clause-over
clash_at-requires-clause-over c =
    let t = c.args.tables.now in
    let seen = c.args.suspects.now in
    let e = c.of_all-view.ensures in
    let p = c.in-Some.place in
    over_in_view t c.of_all-view.result e.tables e.without p (among_whole t seen c.requires.others (Some p) (subst (λ u. IsFirstAmong u seen (Some p)) e.tables c.in-Some.ensures))

pub returns-in-Some : goal.returns-in-Some
returns-in-Some c =
    let e = c.of_all-view.ensures in
    conflict_in_view c.args.tables.now c.of_all-view.result e.tables e.without c.clash_at.result c.clash_at.ensures
