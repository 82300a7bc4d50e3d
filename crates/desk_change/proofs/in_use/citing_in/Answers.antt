use Rattle.std.proofs.Common.{ap}
use Rattle.desk_change.proofs.Naming.{is_silent, silent}
use Rattle.desk_change.proofs.in_use.citing_in.Goals as goal

pub returns-in-Zone : goal.returns-in-Zone
returns-in-Zone c = silent c.args.tables.now c.args.key.now c.args.table (ap is_silent c.in-Zone.is)

pub returns-in-Unit : goal.returns-in-Unit
returns-in-Unit c = silent c.args.tables.now c.args.key.now c.args.table (ap is_silent c.in-Unit.is)

pub returns-in-Site : goal.returns-in-Site
returns-in-Site c = silent c.args.tables.now c.args.key.now c.args.table (ap is_silent c.in-Site.is)

pub returns-in-Role : goal.returns-in-Role
returns-in-Role c = silent c.args.tables.now c.args.key.now c.args.table (ap is_silent c.in-Role.is)

pub returns-in-Characteristic : goal.returns-in-Characteristic
returns-in-Characteristic c = silent c.args.tables.now c.args.key.now c.args.table (ap is_silent c.in-Characteristic.is)

pub returns-in-Territory : goal.returns-in-Territory
returns-in-Territory c = silent c.args.tables.now c.args.key.now c.args.table (ap is_silent c.in-Territory.is)

pub returns-in-Caller : goal.returns-in-Caller
returns-in-Caller c = silent c.args.tables.now c.args.key.now c.args.table (ap is_silent c.in-Caller.is)
