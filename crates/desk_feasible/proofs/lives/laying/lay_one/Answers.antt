use Rattle.std.proofs.Common.{◌∷◌, [], ◌++◌, Some, sym, ap, ◌∙◌, arith, length-append}
use Rattle.desk_base.specs.declared.rows.groups.GroupRow.{GroupRow}
use Rattle.desk_base.specs.declared.search.results.Ask.{Ask}
use Rattle.desk_base.specs.search.Listing.{asks_for}
use Rattle.desk_feasible.proofs.Growing.{begun_length, last_serves, asks_more}
use Rattle.desk_feasible.proofs.Laying.{lay_some}
use Rattle.desk_feasible.proofs.Windows.{leaf_end}
use Rattle.desk_feasible.proofs.lives.laying.lay_one.Goals as goal

pub ask_for-requires : goal.ask_for-requires
ask_for-requires c =
    let g = c.args.case.now.group in
    let inside = (last_serves c.args.case.now.tables g c.args.start c.args.picks.now c.args.id c.args.leaf.now c.requires.leaf c.requires.placed.serve).1 in
    omega (arith, leaf_end g c.args.leaf.now c.args.start inside, c.get-end.ensures.value, c.get-end.ensures.high, ap (λ (x : GroupRow). x.to) c.group.ensures)

pub returns-in-Ok-clause-ok : goal.returns-in-Ok-clause-ok
returns-in-Ok-clause-ok c =
    let a = c.args.case.now in
    let few = begun_length a (c.args.picks.now ++ Some c.args.id ∷ []) c.requires.ready c.requires.placed.pattern in
    let more = asks_more a.group c.args.start c.args.picks.now c.args.leaf.now c.args.id c.requires.leaf in
    lay_some a c.args.view.now c.overlay_push.new.self c.args.start c.args.picks.now c.args.id c.overlay_push.ensures.tables c.overlay_push.ensures.without c.ask_for.result c.requires.laid (omega (arith, few, length-append c.args.picks.now (Some c.args.id ∷ []))) c.in-Ok.ensures.ok
    (more ∙ ap (λ (x : Ask). asks_for a.group c.args.start c.args.picks.now ++ x ∷ []) (sym c.ask_for.ensures))
