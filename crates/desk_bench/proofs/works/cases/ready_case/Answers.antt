use Rattle.std.proofs.Common.{sym, subst}
use Rattle.desk_base.specs.declared.rows.tables.Tables.{Tables}
use Rattle.desk_base.specs.declared.rows.groups.GroupRow.{GroupRow}
use Rattle.desk_base.proofs.meaning.Fewer.{Fits-others}
use Rattle.desk_feasible.specs.Live.{IsReady}
use Rattle.desk_bench.proofs.works.cases.ready_case.Goals as goal

pub returns-clause-ready : goal.returns-clause-ready
returns-clause-ready c =
    let t = c.args.tables.now in
    let g = c.args.group.now in
    let ready : IsReady (record { tables = t; group = g }) = record {
      formed = c.requires.formed;
      there = c.requires.there;
      fits = Fits-others t g c.requires.fits;
    } in
    subst (λ (u : Tables). IsReady (record { tables = u; group = c.in_ok-case.case.group })) (sym c.in_ok-case.ensures.tables)
    (subst (λ (h : GroupRow). IsReady (record { tables = t; group = h })) (sym c.in_ok-case.ensures.group) ready)
