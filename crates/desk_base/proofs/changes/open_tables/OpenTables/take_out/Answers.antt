use Rattle.desk_base.specs.declared.rows.tables.Table.TheVariants.{Zone, Calendar, Work, Break, Day, Off, Unit, Site, Role, Characteristic, Territory, Resource, HasRole, HasCharacteristic, HasTerritory, Member, Group, Booking, Caller}
use Rattle.desk_base.proofs.changes.open_tables.OpenTables.take_out.Goals as goal

pub take_out-requires : goal.take_out-requires
take_out-requires c = c.requires Zone

pub take_out-requires-in-Calendar : goal.take_out-requires-in-Calendar
take_out-requires-in-Calendar c = c.requires Calendar

pub take_out-requires-in-Work : goal.take_out-requires-in-Work
take_out-requires-in-Work c = c.requires Work

pub take_out-requires-in-Break : goal.take_out-requires-in-Break
take_out-requires-in-Break c = c.requires Break

pub take_out-requires-in-Day : goal.take_out-requires-in-Day
take_out-requires-in-Day c = c.requires Day

pub take_out-requires-in-Off : goal.take_out-requires-in-Off
take_out-requires-in-Off c = c.requires Off

pub take_out-requires-in-Unit : goal.take_out-requires-in-Unit
take_out-requires-in-Unit c = c.requires Unit

pub take_out-requires-in-Site : goal.take_out-requires-in-Site
take_out-requires-in-Site c = c.requires Site

pub take_out-requires-in-Role : goal.take_out-requires-in-Role
take_out-requires-in-Role c = c.requires Role

pub take_out-requires-in-Characteristic : goal.take_out-requires-in-Characteristic
take_out-requires-in-Characteristic c = c.requires Characteristic

pub take_out-requires-in-Territory : goal.take_out-requires-in-Territory
take_out-requires-in-Territory c = c.requires Territory

pub take_out-requires-in-Resource : goal.take_out-requires-in-Resource
take_out-requires-in-Resource c = c.requires Resource

pub take_out-requires-in-HasRole : goal.take_out-requires-in-HasRole
take_out-requires-in-HasRole c = c.requires HasRole

pub take_out-requires-in-HasCharacteristic : goal.take_out-requires-in-HasCharacteristic
take_out-requires-in-HasCharacteristic c = c.requires HasCharacteristic

pub take_out-requires-in-HasTerritory : goal.take_out-requires-in-HasTerritory
take_out-requires-in-HasTerritory c = c.requires HasTerritory

pub take_out-requires-in-Member : goal.take_out-requires-in-Member
take_out-requires-in-Member c = c.requires Member

pub take_out-requires-in-Group : goal.take_out-requires-in-Group
take_out-requires-in-Group c = c.requires Group

pub take_out-requires-in-Booking : goal.take_out-requires-in-Booking
take_out-requires-in-Booking c = c.requires Booking

pub take_out-requires-in-Caller : goal.take_out-requires-in-Caller
take_out-requires-in-Caller c = c.requires Caller
