use Rattle.desk_base.specs.declared.rows.tables.Table.TheVariants.{Zone, Calendar, Work, Break, Day, Off, Unit, Site, Role, Characteristic, Territory, Resource, HasRole, HasCharacteristic, HasTerritory, Member, Group, Booking, Caller}
use Rattle.desk_base.proofs.rows.tables.Tables.contains.Goals as goal

pub has_key-requires : goal.has_key-requires
has_key-requires c = rw c.as_slice.ensures (c.requires Zone)

pub has_key-requires-in-Calendar : goal.has_key-requires-in-Calendar
has_key-requires-in-Calendar c = rw c.as_slice-in-Calendar.ensures (c.requires Calendar)

pub has_key-requires-in-Work : goal.has_key-requires-in-Work
has_key-requires-in-Work c = rw c.as_slice-in-Work.ensures (c.requires Work)

pub has_key-requires-in-Break : goal.has_key-requires-in-Break
has_key-requires-in-Break c = rw c.as_slice-in-Break.ensures (c.requires Break)

pub has_key-requires-in-Day : goal.has_key-requires-in-Day
has_key-requires-in-Day c = rw c.as_slice-in-Day.ensures (c.requires Day)

pub has_key-requires-in-Off : goal.has_key-requires-in-Off
has_key-requires-in-Off c = rw c.as_slice-in-Off.ensures (c.requires Off)

pub has_key-requires-in-Unit : goal.has_key-requires-in-Unit
has_key-requires-in-Unit c = rw c.as_slice-in-Unit.ensures (c.requires Unit)

pub has_key-requires-in-Site : goal.has_key-requires-in-Site
has_key-requires-in-Site c = rw c.as_slice-in-Site.ensures (c.requires Site)

pub has_key-requires-in-Role : goal.has_key-requires-in-Role
has_key-requires-in-Role c = rw c.as_slice-in-Role.ensures (c.requires Role)

pub has_key-requires-in-Characteristic : goal.has_key-requires-in-Characteristic
has_key-requires-in-Characteristic c = rw c.as_slice-in-Characteristic.ensures (c.requires Characteristic)

pub has_key-requires-in-Territory : goal.has_key-requires-in-Territory
has_key-requires-in-Territory c = rw c.as_slice-in-Territory.ensures (c.requires Territory)

pub has_key-requires-in-Resource : goal.has_key-requires-in-Resource
has_key-requires-in-Resource c = rw c.as_slice-in-Resource.ensures (c.requires Resource)

pub has_key-requires-in-HasRole : goal.has_key-requires-in-HasRole
has_key-requires-in-HasRole c = rw c.as_slice-in-HasRole.ensures (c.requires HasRole)

pub has_key-requires-in-HasCharacteristic : goal.has_key-requires-in-HasCharacteristic
has_key-requires-in-HasCharacteristic c = rw c.as_slice-in-HasCharacteristic.ensures (c.requires HasCharacteristic)

pub has_key-requires-in-HasTerritory : goal.has_key-requires-in-HasTerritory
has_key-requires-in-HasTerritory c = rw c.as_slice-in-HasTerritory.ensures (c.requires HasTerritory)

pub has_key-requires-in-Member : goal.has_key-requires-in-Member
has_key-requires-in-Member c = rw c.as_slice-in-Member.ensures (c.requires Member)

pub has_key-requires-in-Group : goal.has_key-requires-in-Group
has_key-requires-in-Group c = rw c.as_slice-in-Group.ensures (c.requires Group)

pub has_key-requires-in-Booking : goal.has_key-requires-in-Booking
has_key-requires-in-Booking c = rw c.as_slice-in-Booking.ensures (c.requires Booking)

pub has_key-requires-in-Caller : goal.has_key-requires-in-Caller
has_key-requires-in-Caller c = rw c.as_slice-in-Caller.ensures (c.requires Caller)
