use Rattle.desk_base.specs.declared.rows.tables.Table.TheVariants.{Zone, Calendar, Work, Break, Day, Off, Unit, Site, Role, Characteristic, Territory, Resource, HasRole, HasCharacteristic, HasTerritory, Member, Group, Booking, Caller}
use Rattle.desk_base.proofs.changes.open_tables.OpenTables.put.Goals as goal

pub put_in-requires-clause-rise : goal.put_in-requires-clause-rise
put_in-requires-clause-rise c = c.requires.rise Zone

pub put_in-requires-in-Calendar-clause-rise : goal.put_in-requires-in-Calendar-clause-rise
put_in-requires-in-Calendar-clause-rise c = c.requires.rise Calendar

pub put_in-requires-in-Work-clause-rise : goal.put_in-requires-in-Work-clause-rise
put_in-requires-in-Work-clause-rise c = c.requires.rise Work

pub put_in-requires-in-Break-clause-rise : goal.put_in-requires-in-Break-clause-rise
put_in-requires-in-Break-clause-rise c = c.requires.rise Break

pub put_in-requires-in-Day-clause-rise : goal.put_in-requires-in-Day-clause-rise
put_in-requires-in-Day-clause-rise c = c.requires.rise Day

pub put_in-requires-in-Off-clause-rise : goal.put_in-requires-in-Off-clause-rise
put_in-requires-in-Off-clause-rise c = c.requires.rise Off

pub put_in-requires-in-Unit-clause-rise : goal.put_in-requires-in-Unit-clause-rise
put_in-requires-in-Unit-clause-rise c = c.requires.rise Unit

pub put_in-requires-in-Site-clause-rise : goal.put_in-requires-in-Site-clause-rise
put_in-requires-in-Site-clause-rise c = c.requires.rise Site

pub put_in-requires-in-Role-clause-rise : goal.put_in-requires-in-Role-clause-rise
put_in-requires-in-Role-clause-rise c = c.requires.rise Role

pub put_in-requires-in-Characteristic-clause-rise : goal.put_in-requires-in-Characteristic-clause-rise
put_in-requires-in-Characteristic-clause-rise c = c.requires.rise Characteristic

pub put_in-requires-in-Territory-clause-rise : goal.put_in-requires-in-Territory-clause-rise
put_in-requires-in-Territory-clause-rise c = c.requires.rise Territory

pub put_in-requires-in-Resource-clause-rise : goal.put_in-requires-in-Resource-clause-rise
put_in-requires-in-Resource-clause-rise c = c.requires.rise Resource

pub put_in-requires-in-HasRole-clause-rise : goal.put_in-requires-in-HasRole-clause-rise
put_in-requires-in-HasRole-clause-rise c = c.requires.rise HasRole

pub put_in-requires-in-HasCharacteristic-clause-rise : goal.put_in-requires-in-HasCharacteristic-clause-rise
put_in-requires-in-HasCharacteristic-clause-rise c = c.requires.rise HasCharacteristic

pub put_in-requires-in-HasTerritory-clause-rise : goal.put_in-requires-in-HasTerritory-clause-rise
put_in-requires-in-HasTerritory-clause-rise c = c.requires.rise HasTerritory

pub put_in-requires-in-Member-clause-rise : goal.put_in-requires-in-Member-clause-rise
put_in-requires-in-Member-clause-rise c = c.requires.rise Member

pub put_in-requires-in-Group-clause-rise : goal.put_in-requires-in-Group-clause-rise
put_in-requires-in-Group-clause-rise c = c.requires.rise Group

pub put_in-requires-in-Booking-clause-rise : goal.put_in-requires-in-Booking-clause-rise
put_in-requires-in-Booking-clause-rise c = c.requires.rise Booking

pub put_in-requires-in-Caller-clause-rise : goal.put_in-requires-in-Caller-clause-rise
put_in-requires-in-Caller-clause-rise c = c.requires.rise Caller
