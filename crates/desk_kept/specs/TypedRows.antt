-- What the types of fields say of them, whatever rules a row keeps: of every row but groups.
use Rattle.std.specs.Prelude.{ℕ, ◌≤◌, Option, MatchOption, ⊤}
use Rattle.std.specs.Str.{IsUtf8}
use Rattle.desk_base.specs.rules.Limits.{serial_limit}
use Rattle.desk_base.specs.declared.rows.calendars.ZoneRow.{ZoneRow}
use Rattle.desk_base.specs.declared.rows.calendars.CalendarRow.{CalendarRow}
use Rattle.desk_base.specs.declared.rows.calendars.WorkRow.{WorkRow}
use Rattle.desk_base.specs.declared.rows.calendars.BreakRow.{BreakRow}
use Rattle.desk_base.specs.declared.rows.calendars.DayRow.{DayRow}
use Rattle.desk_base.specs.declared.rows.calendars.OffRow.{OffRow}
use Rattle.desk_base.specs.declared.rows.resources.NamedRow.{NamedRow}
use Rattle.desk_base.specs.declared.rows.resources.ResourceRow.{ResourceRow}
use Rattle.desk_base.specs.declared.rows.resources.HasRow.{HasRow}
use Rattle.desk_base.specs.declared.rows.resources.MemberRow.{MemberRow}
use Rattle.desk_base.specs.declared.rows.bookings.BookingRow.{BookingRow}
use Rattle.desk_base.specs.declared.rows.bookings.CallerRow.{CallerRow}
use Rattle.desk_base.specs.declared.rows.bookings.Receipt.{Receipt}
use Rattle.desk_base.specs.declared.rows.bookings.Receipt.TheVariants as receipt
use Rattle.desk_time.specs.Limits.{IsMoment}
use Rattle.desk_json.specs.Decimals.{IsId}
use Rattle.desk_json.specs.Reading.{greatest_u8, greatest_u16, greatest_u32, greatest_u64}

-- a number of a booking or of a caller's change
abbrev pub IsSerial : ℕ → Type 0
IsSerial n = (1 ≤ n) × (n ≤ serial_limit)

pub record IsZone (z : ZoneRow) : Type 0 where
  pub id : IsId z.id
  pub name : IsUtf8 z.name

pub record IsCalendar (c : CalendarRow) : Type 0 where
  pub id : IsId c.id
  pub name : IsUtf8 c.name
  pub zone : IsId c.zone

pub record IsWork (w : WorkRow) : Type 0 where
  pub calendar : IsId w.calendar
  pub weekday : w.weekday ≤ greatest_u8
  pub from : w.from ≤ greatest_u16
  pub to : w.to ≤ greatest_u16
  pub capacity : w.capacity ≤ greatest_u16

pub record IsBreak (b : BreakRow) : Type 0 where
  pub calendar : IsId b.calendar
  pub weekday : b.weekday ≤ greatest_u8
  pub from : b.from ≤ greatest_u16
  pub to : b.to ≤ greatest_u16

pub record IsDayRow (d : DayRow) : Type 0 where
  pub calendar : IsId d.calendar
  pub from : d.from ≤ greatest_u16
  pub to : d.to ≤ greatest_u16
  pub capacity : d.capacity ≤ greatest_u16

pub record IsOff (o : OffRow) : Type 0 where
  pub resource : IsId o.resource
  pub from : IsMoment o.from
  pub to : IsMoment o.to

pub record IsNamed (n : NamedRow) : Type 0 where
  pub id : n.id ≤ greatest_u32
  pub name : IsUtf8 n.name

-- an id, where there is one
abbrev pub IsIdOrNone : Option ℕ → Type 0
IsIdOrNone id = MatchOption id ⊤ IsId

pub record IsResource (r : ResourceRow) : Type 0 where
  pub id : IsId r.id
  pub name : IsUtf8 r.name
  pub calendar : IsIdOrNone r.calendar
  pub unit : IsId r.unit
  pub site : IsId r.site

pub record IsHas (h : HasRow) : Type 0 where
  pub resource : IsId h.resource
  pub what : h.what ≤ greatest_u32
  pub rating : h.rating ≤ greatest_u8

pub record IsMembership (x : MemberRow) : Type 0 where
  pub group : IsId x.group
  pub member : IsId x.member
  pub from : IsMoment x.from
  pub to : IsMoment x.to

pub record IsBooking (b : BookingRow) : Type 0 where
  pub id : IsSerial b.id
  pub group : IsId b.group
  pub leaf : b.leaf ≤ greatest_u8
  pub resource : IsId b.resource
  pub from : IsMoment b.from
  pub to : IsMoment b.to
  pub effort : b.effort ≤ greatest_u32

-- how many, and how much effort
abbrev pub IsAmount : ℕ → ℕ → Type 0
IsAmount count effort_minutes = (count ≤ greatest_u8) × (effort_minutes ≤ greatest_u64)

abbrev pub IsReceipt : Receipt → Type 0
IsReceipt receipt.Put = ⊤
IsReceipt receipt.Removed = ⊤
IsReceipt (receipt.Booked first count effort_minutes) = IsSerial first × IsAmount count effort_minutes
IsReceipt (receipt.Cancelled count effort_minutes) = IsAmount count effort_minutes

pub record IsCaller (c : CallerRow) : Type 0 where
  pub caller : IsId c.caller
  pub last : IsSerial c.last
  pub receipt : IsReceipt c.receipt
