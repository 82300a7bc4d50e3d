use Rattle.std.proofs.Common.{ap, subst, arith}
use Rattle.desk_base.specs.declared.rows.groups.GroupRow.{GroupRow}
use Rattle.desk_need.specs.declared.cases.starts.StartRun.{StartRun}
use Rattle.desk_feasible.proofs.FirstLive.{IsCutOf, skip_next}
use Rattle.desk_feasible.proofs.lives.first_starts.first_skip.Goals as goal

pub returns : goal.returns
returns c =
    let a = c.args.case.now in
    let run : StartRun = record { first = c.get.result; last = c.get-2.result } in
    let group = c.group-group.ensures in
    let is_cut : IsCutOf a c.args.options.now run c.args.from c.cut.result = subst (λ (g : GroupRow). IsCutOf (record { tables = a.tables; group = g }) c.args.options.now run c.args.from c.cut.result) group c.cut.ensures.cut in
    skip_next a c.args.options.now c.requires run c.cut.result c.args.from is_cut
    (λ s low below. (omega (arith, low, c.get.ensures.value, ap (λ (g : GroupRow). g.from) group), omega (arith, below, c.get-2.ensures.value, ap (λ (g : GroupRow). g.to) group)))
    (c.goes_on.ensures.0 c.if-not-goes_on.false) c.next_start.result c.next_start.ensures
