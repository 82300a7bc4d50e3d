-- What the types of a row's fields say of them, whatever rules the row keeps.
use Rattle.std.specs.Prelude.{All, ⊤}
use Rattle.desk_base.specs.declared.rows.tables.AnyRow.{AnyRow}
use Rattle.desk_base.specs.declared.rows.tables.AnyRow.TheVariants.{Zone, Calendar, Work, Break, Day, Off, Unit, Site, Role, Characteristic, Territory, Resource, HasRole, HasCharacteristic, HasTerritory, Member, Group, Booking, Caller}
use Rattle.desk_time.specs.Limits.{IsDay}
use Rattle.desk_kept.specs.Values.{IsShift}
use Rattle.desk_kept.specs.TypedRows.{IsZone, IsCalendar, IsWork, IsBreak, IsDayRow, IsOff, IsNamed, IsResource, IsHas, IsMembership, IsBooking, IsCaller}
use Rattle.desk_kept.specs.TypedGroups.{IsGroup}

-- a row as the types of its fields let it be
abbrev pub IsTyped : AnyRow → Type 0
IsTyped (Zone x) = IsZone x
IsTyped (Calendar x) = IsCalendar x
IsTyped (Work x) = IsWork x
IsTyped (Break x) = IsBreak x
IsTyped (Day x) = IsDayRow x
IsTyped (Off x) = IsOff x
IsTyped (Unit x) = IsNamed x
IsTyped (Site x) = IsNamed x
IsTyped (Role x) = IsNamed x
IsTyped (Characteristic x) = IsNamed x
IsTyped (Territory x) = IsNamed x
IsTyped (Resource x) = IsResource x
IsTyped (HasRole x) = IsHas x
IsTyped (HasCharacteristic x) = IsHas x
IsTyped (HasTerritory x) = IsHas x
IsTyped (Member x) = IsMembership x
IsTyped (Group x) = IsGroup x
IsTyped (Booking x) = IsBooking x
IsTyped (Caller x) = IsCaller x

-- each day and each shift of it is of the horizon, as the rules of its fields say
abbrev pub HasHorizon : AnyRow → Type 0
HasHorizon (Zone x) = All IsShift x.shifts
HasHorizon (Day x) = IsDay x.day
HasHorizon _ = ⊤
