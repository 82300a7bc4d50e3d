use Rattle.std.proofs.Common.{sym, subst}
use Rattle.desk_base.specs.declared.rows.tables.Tables.{Tables}
use Rattle.desk_base.specs.declared.rows.groups.GroupRow.{GroupRow}
use Rattle.desk_base.proofs.meaning.Fewer.{Fits-others}
use Rattle.desk_feasible.specs.Live.{IsReady}
use Rattle.desk_feasible.proofs.Trees.{group_tree}
use Rattle.desk_member.proofs.MemberRows.{keys_rise}
use Rattle.tests_pages.proofs.searches.searched.Goals as goal

pub build-requires-clause-rise : goal.build-requires-clause-rise
build-requires-clause-rise c = keys_rise c.args.tables.now c.requires.well_formed

pub build-requires-clause-tree : goal.build-requires-clause-tree
build-requires-clause-tree c = group_tree c.args.tables.now c.args.group.now c.requires.well_formed c.requires.there

pub page_over-requires-clause-ready : goal.page_over-requires-clause-ready
page_over-requires-clause-ready c =
    let t = c.args.tables.now in
    let g = c.args.group.now in
    let ready : IsReady (record { tables = t; group = g }) = record {
      formed = c.requires.well_formed;
      there = c.requires.there;
      fits = Fits-others t g c.requires.fits;
    } in
    subst (λ (u : Tables). IsReady (record { tables = u; group = c.in_ok-case.case.group })) (sym c.in_ok-case.ensures.tables)
    (subst (λ (h : GroupRow). IsReady (record { tables = t; group = h })) (sym c.in_ok-case.ensures.group) ready)
