use Rattle.std.proofs.Common.{sym, ◌∙◌}
use Rattle.desk_base.proofs.puts.KindPuts.{same_sort}
use Rattle.desk_load.specs.Changed.{parts_of}
use Rattle.desk_load.proofs.Resourced.{put_over}
use Rattle.desk_load.proofs.changes.opened.OpenIndex.put_resource.Goals as goal

pub returns-then-number-clause-index : goal.returns-then-number-clause-index
returns-then-number-clause-index c s more h =
    let x = c.args.resource.now in
    let former = c.in-Some.former.now in
    put_over c.args.tables.now s more (parts_of c.args.self.now) c.requires.well_formed h x former (sym c.in-Some.ensures) (same_sort former.kind x.kind (sym c.number.ensures ∙ c.if-number.true ∙ c.number-in-Some.ensures))
