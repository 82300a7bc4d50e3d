use Rattle.desk_base.specs.declared.rows.tables.Table.TheVariants.{Zone, Calendar, Work, Break, Day, Off, Resource, Member}
use Rattle.desk_base.proofs.rows.tables.Tables.lack.Goals as goal

pub put_lacking-requires-clause-rise : goal.put_lacking-requires-clause-rise
put_lacking-requires-clause-rise c = c.requires.rise Zone

pub put_lacking-requires-in-Calendar-clause-rise : goal.put_lacking-requires-in-Calendar-clause-rise
put_lacking-requires-in-Calendar-clause-rise c = c.requires.rise Calendar

pub put_lacking-requires-in-Work-clause-rise : goal.put_lacking-requires-in-Work-clause-rise
put_lacking-requires-in-Work-clause-rise c = c.requires.rise Work

pub put_lacking-requires-in-Break-clause-rise : goal.put_lacking-requires-in-Break-clause-rise
put_lacking-requires-in-Break-clause-rise c = c.requires.rise Break

pub put_lacking-requires-in-Day-clause-rise : goal.put_lacking-requires-in-Day-clause-rise
put_lacking-requires-in-Day-clause-rise c = c.requires.rise Day

pub put_lacking-requires-in-Off-clause-rise : goal.put_lacking-requires-in-Off-clause-rise
put_lacking-requires-in-Off-clause-rise c = c.requires.rise Off

pub put_lacking-requires-in-Resource-clause-rise : goal.put_lacking-requires-in-Resource-clause-rise
put_lacking-requires-in-Resource-clause-rise c = c.requires.rise Resource

pub put_lacking-requires-in-Member-clause-rise : goal.put_lacking-requires-in-Member-clause-rise
put_lacking-requires-in-Member-clause-rise c = c.requires.rise Member
