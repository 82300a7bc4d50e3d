-- A command that a request can ask for is served by the step.
use Rattle.std.proofs.Common.{◌≡◌, true, refl, arith}
use Rattle.desk_base.specs.declared.rows.tables.AnyRow.{AnyRow}
use Rattle.desk_base.specs.declared.rows.tables.AnyRow.TheVariants.{Group, Booking, Caller}
use Rattle.desk_base.specs.declared.rows.tables.Table.{Table}
use Rattle.desk_base.specs.declared.rows.tables.Table.TheVariants.{Group as GroupTable, Booking as BookingTable, Caller as CallerTable, BookingNumbers}
use Rattle.desk_base.specs.rows.Rows.{key_of}
use Rattle.desk_base.specs.declared.asked.acts.Act.{Act}
use Rattle.desk_base.specs.declared.asked.acts.Act.TheVariants.{Put, Remove}
use Rattle.desk_base.specs.declared.asked.answers.Command.{Command}
use Rattle.desk_base.specs.declared.asked.answers.Command.TheVariants.{Change, Ask}
use Rattle.desk_change.specs.Served.{is_master, IsServed}
use Rattle.desk_core.specs.Built.{IsBuilt}
use Rattle.desk_json.specs.Asked.{IsAskedRow, IsAskedTable, IsAskedAct}
use Rattle.desk_route.specs.Exchanges.{IsRequested}

row_served : (row : AnyRow) → IsAskedRow row → is_master (key_of row).table ≡ true
row_served (Group x) is = absurd is
row_served (Booking x) is = absurd is
row_served (Caller x) is = absurd is
row_served row is = refl

table_served : (table : Table) → IsAskedTable table → is_master table ≡ true
table_served GroupTable is = absurd (omega (arith, is))
table_served BookingTable is = absurd (omega (arith, is))
table_served CallerTable is = absurd (omega (arith, is))
table_served BookingNumbers is = absurd (omega (arith, is))
table_served table is = refl

act_served : (act : Act) → IsAskedAct act → IsServed act
act_served (Put row) is = row_served row is
act_served (Remove key) is = table_served key.table is
act_served _ is = tt

pub requested_built : (c : Command) → IsRequested c → IsBuilt c
requested_built (Change call act) is = act_served act is
requested_built (Ask query) is = tt
