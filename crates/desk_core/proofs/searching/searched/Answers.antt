use Rattle.std.proofs.Common.{sym, subst}
use Rattle.desk_base.specs.declared.rows.tables.Tables.{Tables}
use Rattle.desk_base.specs.declared.rows.groups.GroupRow.{GroupRow}
use Rattle.desk_base.proofs.meaning.Fewer.{Fits-others}
use Rattle.desk_base.proofs.tables.Sounds.{well_formed, bookings_fit, keys_rise}
use Rattle.desk_feasible.specs.Live.{IsReady}
use Rattle.desk_feasible.proofs.Trees.{group_tree}
use Rattle.desk_core.proofs.searching.searched.Goals as goal

pub build-requires-clause-rise : goal.build-requires-clause-rise
build-requires-clause-rise c = λ table. keys_rise c.args.view.now.tables table c.requires.sound

pub build-requires-clause-tree : goal.build-requires-clause-tree
build-requires-clause-tree c = group_tree c.args.view.now.tables c.args.group.now (well_formed c.args.view.now.tables c.requires.sound) c.requires.there

pub build-requires-2-clause-well_formed : goal.build-requires-2-clause-well_formed
build-requires-2-clause-well_formed c = well_formed c.args.view.now.tables c.requires.sound

pub page_over-requires-clause-ready : goal.page_over-requires-clause-ready
page_over-requires-clause-ready c =
    let t = c.args.view.now.tables in
    let g = c.args.group.now in
    let ready : IsReady (record { tables = t; group = g }) = record {
      formed = well_formed t c.requires.sound;
      there = c.requires.there;
      fits = Fits-others t g (bookings_fit t c.requires.sound);
    } in
    subst (λ (u : Tables). IsReady (record { tables = u; group = c.in_ok-case.case.group })) (sym c.in_ok-case.ensures.tables)
    (subst (λ (h : GroupRow). IsReady (record { tables = t; group = h })) (sym c.in_ok-case.ensures.group) ready)
