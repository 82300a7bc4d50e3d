use Rattle.desk_base.specs.declared.rows.resources.ResourceRow.{ResourceRow}
use Rattle.desk_need.specs.Crews.{is_crew_row}
use Rattle.desk_need.proofs.Finds.{picked-more}
use Rattle.desk_need.proofs.same.crews.crews_among.Goals as goal

pub loop-row-preserved : goal.loop-row-preserved
loop-row-preserved c =
    picked-more is_crew_row (λ (x : ResourceRow). x.id) c.args.rows.now c.loop-row.row-index c.row-item.result c.loop-row.out.items c.push_crew.new.out.items
    c.loop-row-test.true c.row-item.is c.loop-row.invariant c.in_ok-push_crew.ensures
