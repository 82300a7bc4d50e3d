-- Tables as a store keeps them: the kept rows of tables, and the tables that kept rows are read as.
use Rattle.std.specs.Prelude.{ℕ, ◌≡◌, ◌⊎◌, Bool, true, ◌&&◌, ◌||◌, ◌==◌, List, [], ◌∷◌, ◌++◌, map, flat_map, find, fold, codes, Option, Some, None, is_some, option_map, option_and_then, option_to_list, Result, Ok, Err, if◌then◌else◌}
use Rattle.std.specs.declared.cmp.Ordering.{Ordering}
use Rattle.std.specs.Ordering.{nat_cmp, ordering_then, is_lt}
use Rattle.serde_json.specs.Data.{Data, object, no_members, member}
use Rattle.serde_json.specs.Written.{compact_text}
use Rattle.desk_base.specs.declared.rows.tables.Tables.{Tables}
use Rattle.desk_base.specs.declared.rows.tables.Table.{Table}
use Rattle.desk_base.specs.declared.rows.tables.Key.{Key}
use Rattle.desk_base.specs.declared.rows.tables.AnyRow.{AnyRow}
use Rattle.desk_base.specs.declared.rows.tables.AnyRow.TheVariants.{Zone, Calendar, Work, Break, Day, Off, Unit, Site, Role, Characteristic, Territory, Resource, HasRole, HasCharacteristic, HasTerritory, Member, Group, Booking, Caller}
use Rattle.desk_base.specs.declared.asked.rules.Field.TheVariants as field
use Rattle.desk_base.specs.rows.Keys.{table_number}
use Rattle.desk_base.specs.rows.Rows.{rows_in, key_of}
use Rattle.desk_base.specs.rows.Trial.{no_rows}
use Rattle.desk_base.specs.asked.Refusing.{all_tables}
use Rattle.desk_base.specs.changes.Tried.{with_counters}
use Rattle.desk_json.specs.declared.faults.BodyError.{BodyError}
use Rattle.desk_json.specs.declared.faults.BodyRule.TheVariants.{Object, Range}
use Rattle.desk_json.specs.Faults.{fault, ◌>>=◌}
use Rattle.desk_json.specs.Values.{whole_number}
use Rattle.desk_json.specs.Reading.{greatest_u8, greatest_u64, whole_in, u32_in, or_fault}
use Rattle.desk_json.specs.TreeReading.{object_in, with_only}
use Rattle.desk_json.specs.Forms.{Form, part, three}
use Rattle.desk_json.specs.Bodies.{parsed}
use Rattle.desk_kept.specs.Kept.{row_text}
use Rattle.desk_kept.specs.Versions.{version_of, row_of_version}
use Rattle.desk_kept.specs.declared.stored.KeptRow.{KeptRow}
use Rattle.desk_kept.specs.declared.stored.KeptError.{KeptError}
use Rattle.desk_kept.specs.declared.stored.KeptError.TheVariants.{BadHeader, BadBody, NoMemory}
use Rattle.desk_kept.specs.declared.stored.Place.{Place}
use Rattle.desk_kept.specs.declared.headers.Header.{Header}
use Rattle.desk_kept.specs.declared.versions.Version.{Version}

-- ---- what is written

-- the kept row of a row: the number of its table, its key, and its text
unfoldable pub kept_row : AnyRow → KeptRow
kept_row row = record { kind = table_number (key_of row).table; a = (key_of row).a; b = (key_of row).b; c = (key_of row).c; body = row_text row }

-- the header has the counters of the tables, and the version, which is the second
abbrev pub header_data : Tables → Data
header_data t =
    object (member (codes "last_booking") (whole_number t.last_booking)
    (member (codes "revision") (whole_number t.revision)
    (member (codes "version") (whole_number 2) no_members)))

unfoldable pub header_row : Tables → KeptRow
header_row t = record { kind = 20; a = 0; b = 0; c = 0; body = compact_text (header_data t) }

-- all rows, table by table
abbrev pub all_rows : Tables → List AnyRow
all_rows t = flat_map (rows_in t) all_tables

-- the kept rows of tables, in the order of their places: the header comes last
unfoldable pub kept_rows : Tables → List KeptRow
kept_rows t = map kept_row (all_rows t) ++ header_row t ∷ []

-- ---- places

abbrev pub place_of : KeptRow → Place
place_of r = record { kind = r.kind; a = r.a; b = r.b; c = r.c }

-- by the number of the table, then by the numbers of the key in turn
abbrev pub place_cmp : Place → Place → Ordering
place_cmp x y = ordering_then (nat_cmp x.kind y.kind) (ordering_then (nat_cmp x.a y.a) (ordering_then (nat_cmp x.b y.b) (nat_cmp x.c y.c)))

-- it is above the place before it, if there is one
abbrev pub is_above : Option Place → Place → Bool
is_above None place = true
is_above (Some before) place = is_lt (place_cmp before place)

-- the place is that of the header
abbrev pub is_header : KeptRow → Bool
is_header r = (r.kind == 20) && (r.a == 0) && (r.b == 0) && (r.c == 0)

-- the table of a number, where it has rows
unfoldable pub table_of : ℕ → Option Table
table_of kind = find (λ table. table_number table == kind) all_tables

-- the key under which a table would have the row
abbrev pub key_kept : KeptRow → Option Key
key_kept r = option_map (λ table. record { table = table; a = r.a; b = r.b; c = r.c }) (table_of r.kind)

-- ---- what is read

-- what was read, if it was
abbrev pub if_read : {X : Type 0} → Result X BodyError → Option X
if_read (Ok x) = Some x
if_read (Err why) = None

-- the numbers of a header
unfoldable pub header_form : Form (ℕ × ℕ × ℕ)
header_form = three (part (codes "last_booking") field.Body u32_in) (part (codes "revision") field.Body (whole_in greatest_u64)) (part (codes "version") field.Body (whole_in greatest_u8))

-- a header of a version that is known
abbrev pub known_header : ℕ × ℕ × ℕ → Result Header BodyError
known_header x = or_fault (fault Range field.Body) (option_map (λ v. record { last_booking = x.0; revision = x.1; version = v }) (version_of x.2))

-- the header that an object gives: it has no other names
unfoldable pub header_in : Data → Result Header BodyError
header_in d = object_in Object field.Body d >>= λ _. header_form.read d >>= with_only header_form.names field.Other d >>= known_header

-- the header that a text gives
unfoldable pub header_of_text : List ℕ → Result Header BodyError
header_of_text text = parsed text >>= header_in

-- the header of kept rows: the first row at its place, if that can be read
abbrev pub header_of : List KeptRow → Option Header
header_of rows = option_and_then (λ r. if_read (header_of_text r.body)) (find is_header rows)

-- the row that a kept row is read as, if it can be
unfoldable pub row_kept : Version → KeptRow → Option AnyRow
row_kept v r = option_and_then (λ key. if_read (row_of_version v key r.body)) (key_kept r)

-- a kept row is good where it is above the one before it, and is at the place of the header or can be read
unfoldable pub is_good : Version → Option Place → KeptRow → Bool
is_good v before r = is_above before (place_of r) && (is_header r || is_some (row_kept v r))

-- the first kept row that is not
abbrev pub first_bad : Version → Option Place → List KeptRow → Option KeptRow
first_bad v before [] = None
first_bad v before (r ∷ rs) = if is_good v before r then first_bad v (Some (place_of r)) rs else Some r

-- the rows that kept rows are read as
abbrev pub rows_held : Version → List KeptRow → List AnyRow
rows_held v rows = flat_map (λ r. option_to_list (row_kept v r)) rows

-- the tables with a row more, at the end of its table
abbrev pub with_last : Tables → AnyRow → Tables
with_last t (Zone x) = record t { zones = t.zones ++ x ∷ [] }
with_last t (Calendar x) = record t { calendars = t.calendars ++ x ∷ [] }
with_last t (Work x) = record t { works = t.works ++ x ∷ [] }
with_last t (Break x) = record t { breaks = t.breaks ++ x ∷ [] }
with_last t (Day x) = record t { days = t.days ++ x ∷ [] }
with_last t (Off x) = record t { offs = t.offs ++ x ∷ [] }
with_last t (Unit x) = record t { units = t.units ++ x ∷ [] }
with_last t (Site x) = record t { sites = t.sites ++ x ∷ [] }
with_last t (Role x) = record t { roles = t.roles ++ x ∷ [] }
with_last t (Characteristic x) = record t { characteristics = t.characteristics ++ x ∷ [] }
with_last t (Territory x) = record t { territories = t.territories ++ x ∷ [] }
with_last t (Resource x) = record t { resources = t.resources ++ x ∷ [] }
with_last t (HasRole x) = record t { has_roles = t.has_roles ++ x ∷ [] }
with_last t (HasCharacteristic x) = record t { has_characteristics = t.has_characteristics ++ x ∷ [] }
with_last t (HasTerritory x) = record t { has_territories = t.has_territories ++ x ∷ [] }
with_last t (Member x) = record t { members = t.members ++ x ∷ [] }
with_last t (Group x) = record t { groups = t.groups ++ x ∷ [] }
with_last t (Booking x) = record t { bookings = t.bookings ++ x ∷ [] }
with_last t (Caller x) = record t { callers = t.callers ++ x ∷ [] }

-- the error of the row at a place
abbrev pub bad_body : Place → KeptError
bad_body place = BadBody place.kind place.a place.b place.c

-- the tables, unless a row is bad
abbrev pub unless_bad : Option KeptRow → Tables → Result Tables KeptError
unless_bad None t = Ok t
unless_bad (Some r) t = Err (bad_body (place_of r))

-- the tables that kept rows of a version hold
abbrev pub tables_held : Version → List KeptRow → Result Tables KeptError
tables_held v rows = unless_bad (first_bad v None rows) (fold with_last no_rows (rows_held v rows))

-- the tables that have the counters of a header
abbrev pub with_header : Header → Result Tables KeptError → Result Tables KeptError
with_header h (Ok t) = Ok (with_counters t h.revision h.last_booking)
with_header h (Err why) = Err why

-- the tables that kept rows hold under their header
abbrev pub tables_under : Option Header → List KeptRow → Result Tables KeptError
tables_under None rows = Err BadHeader
tables_under (Some h) rows = with_header h (tables_held h.version rows)

-- the tables that kept rows are read as, or the first error. No row at all is the empty tables
unfoldable pub tables_kept : List KeptRow → Result Tables KeptError
tables_kept [] = Ok no_rows
tables_kept (r ∷ rs) = tables_under (header_of (r ∷ rs)) (r ∷ rs)

-- the answer is what reading gives, but that memory may be wanting
abbrev pub IsStored : {X : Type 0} → Result X KeptError → Result X KeptError → Type 0
IsStored expected (Ok x) = expected ≡ Ok x
IsStored expected (Err why) = (expected ≡ Err why) ⊎ (why ≡ NoMemory)

-- the kept rows of the tables that were read, or the error
abbrev pub kept_anew : Result Tables KeptError → Result (List KeptRow) KeptError
kept_anew (Ok t) = Ok (kept_rows t)
kept_anew (Err why) = Err why
