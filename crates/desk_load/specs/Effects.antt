-- What an index keeps of tables.
use Rattle.std.specs.Prelude.{◌≡◌, Bool, true, false}
use Rattle.desk_base.specs.declared.rows.tables.Tables.{Tables}
use Rattle.desk_base.specs.declared.rows.tables.Table.{Table}
use Rattle.desk_base.specs.declared.rows.tables.Table.TheVariants.{Zone, Calendar, Work, Break, Day, Off, Unit, Site, Role, Characteristic, Territory, Resource, HasRole, HasCharacteristic, HasTerritory, Member, Group, Booking, Caller, BookingNumbers}

-- an index keeps something of the table
abbrev pub is_indexed : Table → Bool
is_indexed Resource = true
is_indexed Member = true
is_indexed Group = true
is_indexed Booking = true
is_indexed Zone = false
is_indexed Calendar = false
is_indexed Work = false
is_indexed Break = false
is_indexed Day = false
is_indexed Off = false
is_indexed Unit = false
is_indexed Site = false
is_indexed Role = false
is_indexed Characteristic = false
is_indexed Territory = false
is_indexed HasRole = false
is_indexed HasCharacteristic = false
is_indexed HasTerritory = false
is_indexed Caller = false
is_indexed BookingNumbers = false

-- the tables s have of all that an index keeps what the tables t have
pub record KeepIndexed (t s : Tables) : Type 0 where
  pub resources : s.resources ≡ t.resources
  pub members : s.members ≡ t.members
  pub groups : s.groups ≡ t.groups
  pub bookings : s.bookings ≡ t.bookings
