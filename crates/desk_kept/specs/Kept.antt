-- The kept bodies of rows: what a keeper writes of a row beside its key, and what it reads again.
use Rattle.std.specs.Prelude.{ℕ, List, [], Result, Ok, if◌then◌else◌}
use Rattle.serde_json.specs.Data.{Data}
use Rattle.serde_json.specs.Written.{compact_text}
use Rattle.desk_base.specs.declared.rows.tables.Table.{Table}
use Rattle.desk_base.specs.declared.rows.tables.Table.TheVariants as table
use Rattle.desk_base.specs.declared.rows.tables.Key.{Key}
use Rattle.desk_base.specs.declared.rows.tables.AnyRow.{AnyRow}
use Rattle.desk_base.specs.declared.rows.tables.AnyRow.TheVariants.{Zone, Calendar, Work, Break, Day, Off, Unit, Site, Role, Characteristic, Territory, Resource, HasRole, HasCharacteristic, HasTerritory, Member, Group, Booking, Caller}
use Rattle.desk_base.specs.rows.Rows.{key_of}
use Rattle.desk_base.specs.asked.Refusing.{is_key}
use Rattle.desk_base.specs.declared.asked.rules.Field.TheVariants as field
use Rattle.desk_json.specs.declared.faults.BodyError.{BodyError}
use Rattle.desk_json.specs.declared.faults.BodyRule.TheVariants.{Object, Range}
use Rattle.desk_json.specs.Faults.{fault, ◌>>=◌}
use Rattle.desk_json.specs.TreeReading.{object_in, with_only}
use Rattle.desk_json.specs.Forms.{Form, made}
use Rattle.desk_json.specs.Tables.{described, row_form, group_form}
use Rattle.desk_json.specs.Bodies.{parsed}
use Rattle.desk_kept.specs.Rows.{zone_data, calendar_data, work_data, break_data, day_row_data, off_data, named_data, resource_data, has_data, rated_data, member_data}
use Rattle.desk_kept.specs.Bookings.{booking_data, booking_form}
use Rattle.desk_kept.specs.Callers.{caller_data, caller_form}
use Rattle.desk_kept.specs.Groups.{group_data}

-- ---- what is written

-- the data of a row
abbrev pub row_data : AnyRow → Data
row_data (Zone x) = zone_data x
row_data (Calendar x) = calendar_data x
row_data (Work x) = work_data x
row_data (Break x) = break_data x
row_data (Day x) = day_row_data x
row_data (Off x) = off_data x
row_data (Unit x) = named_data x
row_data (Site x) = named_data x
row_data (Role x) = named_data x
row_data (Characteristic x) = named_data x
row_data (Territory x) = named_data x
row_data (Resource x) = resource_data x
row_data (HasRole x) = has_data x
row_data (HasCharacteristic x) = rated_data x
row_data (HasTerritory x) = has_data x
row_data (Member x) = member_data x
row_data (Group x) = group_data x
row_data (Booking x) = booking_data x
row_data (Caller x) = caller_data x

-- the text of a row
abbrev pub row_text : AnyRow → List ℕ
row_text row = compact_text (row_data row)

-- ---- what is read

-- a table that has no rows
abbrev pub no_rows : Form AnyRow
no_rows = record { names = []; read = λ d. fault Range field.Body }

-- the fields of a row of a table, under the first number of its key
unfoldable pub kept_form : Table → ℕ → Form AnyRow
kept_form table.Group number = made Group group_form
kept_form table.Booking number = made Booking (booking_form number)
kept_form table.Caller number = made Caller (caller_form number)
kept_form table.BookingNumbers number = no_rows
kept_form t number = row_form (described t)

-- the row, where the key is its own
abbrev pub with_key : Key → AnyRow → Result AnyRow BodyError
with_key key row = if is_key (key_of row) key then Ok row else fault Range field.Body

-- the row that an object gives under a key, or its first fault: of its fields, then of other names, then of the key, which names the body
unfoldable pub row_in : Key → Data → Result AnyRow BodyError
row_in key d =
    object_in Object field.Body d >>= λ _.
    (kept_form key.table key.a).read d >>= with_only (kept_form key.table key.a).names field.Other d >>= with_key key

-- the row that a text gives under a key, or its first fault
unfoldable pub row_of_text : Key → List ℕ → Result AnyRow BodyError
row_of_text key text = parsed text >>= row_in key
