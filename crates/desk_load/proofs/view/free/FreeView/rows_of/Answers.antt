use Rattle.std.proofs.Common.{length, ap, arith}
use Rattle.desk_load.proofs.RoomLemmas.{few_rows}
use Rattle.desk_load.proofs.view.free.FreeView.rows_of.Goals as goal

pub returns-clause-few : goal.returns-clause-few
returns-clause-few c = omega (arith, few_rows c.self.inside.tables.now c.args.group c.self.invariant.0, ap length c.memberships_of.ensures)
