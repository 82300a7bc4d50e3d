-- How many rows each table may have.
use Rattle.std.specs.Prelude.{ℕ}
use Rattle.desk_base.specs.rows.Types.{Table}
use Rattle.desk_base.specs.declared.rows.tables.Table.TheVariants.{Zone, Calendar, Work, Break, Day, Off, Unit, Site, Role, Characteristic, Territory, Resource, HasRole, HasCharacteristic, HasTerritory, Member, Group, Booking, Caller, BookingNumbers}
use Rattle.desk_base.specs.rules.Limits.{serial_limit}

-- how many rows a table may have, and how many booking numbers there are
abbrev pub limit_of : Table → ℕ
limit_of Zone = 64
limit_of Calendar = 2000
limit_of Work = 40000
limit_of Break = 40000
limit_of Day = 100000
limit_of Off = 100000
limit_of Unit = 2000
limit_of Site = 2000
limit_of Role = 2000
limit_of Characteristic = 2000
limit_of Territory = 2000
limit_of Resource = 4000
limit_of HasRole = 40000
limit_of HasCharacteristic = 40000
limit_of HasTerritory = 40000
limit_of Member = 20000
limit_of Group = 50000
limit_of Booking = 400000
limit_of Caller = 10000
limit_of BookingNumbers = serial_limit
