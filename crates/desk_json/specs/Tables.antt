-- The tables as bodies have them, each described once: the fields of its key, which come first, its other fields, and the row that
-- they make.
use Rattle.std.specs.Prelude.{ℕ, ℤ, List, [], Option, ⊤}
use Rattle.desk_base.specs.declared.rows.resources.Kind.{Kind}
use Rattle.desk_base.specs.declared.rows.groups.GroupRow.{GroupRow}
use Rattle.desk_base.specs.declared.rows.tables.Key.{Key}
use Rattle.desk_base.specs.declared.rows.tables.AnyRow.{AnyRow}
use Rattle.desk_base.specs.declared.rows.tables.AnyRow.TheVariants as row
use Rattle.desk_base.specs.declared.rows.tables.Table.{Table}
use Rattle.desk_base.specs.declared.rows.tables.Table.TheVariants.{Zone, Calendar, Work, Break, Day, Off, Unit, Site, Role, Characteristic, Territory, Resource, HasRole, HasCharacteristic, HasTerritory, Member, Group, Booking, Caller, BookingNumbers}
use Rattle.desk_base.specs.declared.asked.rules.Field.TheVariants as field
use Rattle.desk_base.specs.rows.Lookups.{named_in, has_in}
use Rattle.desk_json.specs.declared.faults.BodyRule.TheVariants.{Range}
use Rattle.desk_json.specs.Faults.{fault}
use Rattle.desk_json.specs.Reading.{greatest_u8, greatest_u16, whole_in, u32_in, id_in, id_or_null_in, text_in, moment_in, day_in, kind_in}
use Rattle.desk_json.specs.Lists.{list_in, shift_in}
use Rattle.desk_json.specs.TreeReading.{tree_in}
use Rattle.desk_json.specs.Forms.{Form, nothing, one, both, three, made}

-- a table: the numbers of the key (those that it does not use are 0), the other fields, and the row of both
pub record Described : Type 1 where
  pub Rest : Type 0
  pub key : Form (ℕ × ℕ × ℕ)
  pub rest : Form Rest
  pub row : ℕ × ℕ × ℕ → Rest → AnyRow

-- ---- keys

-- a key of one number, and of two
abbrev pub key_of_one : Form ℕ → Form (ℕ × ℕ × ℕ)
key_of_one f = made (λ x. (x, 0, 0)) f

abbrev pub key_of_two : Form (ℕ × ℕ) → Form (ℕ × ℕ × ℕ)
key_of_two f = made (λ x. (x.0, x.1, 0)) f

-- an id
abbrev pub id_form : Form ℕ
id_form = one field.Id id_in

-- the number of a named row, which is judged with the row
abbrev pub number_form : Form ℕ
number_form = one field.Id u32_in

-- a calendar, a weekday, and a minute of the day
unfoldable pub week_form : Form (ℕ × ℕ × ℕ)
week_form = three (one field.Calendar id_in) (one field.Weekday (whole_in greatest_u8)) (one field.From (whole_in greatest_u16))

-- a calendar, a day by its date, and a minute of the day
unfoldable pub date_form : Form (ℕ × ℕ × ℕ)
date_form = three (one field.Calendar id_in) (one field.Day day_in) (one field.From (whole_in greatest_u16))

-- a resource, and the moment from which it is off
unfoldable pub off_form : Form (ℕ × ℕ)
off_form = both (one field.Resource id_in) (one field.From moment_in)

-- a resource, and what it has
unfoldable pub has_form : Form (ℕ × ℕ)
has_form = both (one field.Resource id_in) (one field.What u32_in)

-- a crew or a pool, a member, and the moment from which it is one
unfoldable pub member_form : Form (ℕ × ℕ × ℕ)
member_form = three (one field.Group id_in) (one field.Member id_in) (one field.From moment_in)

-- ---- tables

unfoldable pub zone_table : Described
zone_table = record {
  Rest = List ℕ × List (ℕ × ℤ);
  key = key_of_one id_form;
  rest = both (one field.Name text_in) (one field.Shifts (list_in shift_in));
  row = λ k x. row.Zone (record { id = k.0; name = x.0; shifts = x.1 });
}

unfoldable pub calendar_table : Described
calendar_table = record {
  Rest = List ℕ × ℕ;
  key = key_of_one id_form;
  rest = both (one field.Name text_in) (one field.Zone id_in);
  row = λ k x. row.Calendar (record { id = k.0; name = x.0; zone = x.1 });
}

unfoldable pub work_table : Described
work_table = record {
  Rest = ℕ × ℕ;
  key = week_form;
  rest = both (one field.To (whole_in greatest_u16)) (one field.Capacity (whole_in greatest_u16));
  row = λ k x. row.Work (record { calendar = k.0; weekday = k.1; from = k.2; to = x.0; capacity = x.1 });
}

unfoldable pub break_table : Described
break_table = record {
  Rest = ℕ;
  key = week_form;
  rest = one field.To (whole_in greatest_u16);
  row = λ k x. row.Break (record { calendar = k.0; weekday = k.1; from = k.2; to = x });
}

unfoldable pub day_table : Described
day_table = record {
  Rest = ℕ × ℕ;
  key = date_form;
  rest = both (one field.To (whole_in greatest_u16)) (one field.Capacity (whole_in greatest_u16));
  row = λ k x. row.Day (record { calendar = k.0; day = k.1; from = k.2; to = x.0; capacity = x.1 });
}

unfoldable pub off_table : Described
off_table = record {
  Rest = ℕ;
  key = key_of_two off_form;
  rest = one field.To moment_in;
  row = λ k x. row.Off (record { resource = k.0; from = k.1; to = x });
}

-- a table of numbers and names
unfoldable pub named_table : Table → Described
named_table table = record {
  Rest = List ℕ;
  key = key_of_one number_form;
  rest = one field.Name text_in;
  row = λ k x. named_in table (record { id = k.0; name = x });
}

-- a unit and a site
unfoldable pub place_form : Form (ℕ × ℕ)
place_form = both (one field.Unit id_in) (one field.Site id_in)

-- what a resource is, and its calendar, if it has one
unfoldable pub nature_form : Form (List ℕ × Kind × Option ℕ)
nature_form = three (one field.Name text_in) (one field.Kind kind_in) (one field.Calendar id_or_null_in)

unfoldable pub resource_table : Described
resource_table = record {
  Rest = (List ℕ × Kind × Option ℕ) × (ℕ × ℕ);
  key = key_of_one id_form;
  rest = both nature_form place_form;
  row = λ k x. row.Resource (record { id = k.0; name = x.0.0; kind = x.0.1; calendar = x.0.2; unit = x.1.0; site = x.1.1 });
}

-- a table of what resources have, without ratings
unfoldable pub has_table : Table → Described
has_table table = record {
  Rest = ⊤;
  key = key_of_two has_form;
  rest = nothing;
  row = λ k x. has_in table (record { resource = k.0; what = k.1; rating = 0 });
}

unfoldable pub rated_table : Described
rated_table = record {
  Rest = ℕ;
  key = key_of_two has_form;
  rest = one field.Rating (whole_in greatest_u8);
  row = λ k x. row.HasCharacteristic (record { resource = k.0; what = k.1; rating = x });
}

unfoldable pub member_table : Described
member_table = record {
  Rest = ℕ;
  key = member_form;
  rest = one field.To moment_in;
  row = λ k x. row.Member (record { group = k.0; member = k.1; from = k.2; to = x });
}

-- a table whose rows no body puts one by one: no act has this name
unfoldable pub no_table : Described
no_table = record {
  Rest = ⊥;
  key = record { names = []; read = λ d. fault Range field.Act };
  rest = record { names = []; read = λ d. fault Range field.Act };
  row = λ k x. absurd x;
}

-- each table
abbrev pub described : Table → Described
described Zone = zone_table
described Calendar = calendar_table
described Work = work_table
described Break = break_table
described Day = day_table
described Off = off_table
described Unit = named_table Unit
described Site = named_table Site
described Role = named_table Role
described Characteristic = named_table Characteristic
described Territory = named_table Territory
described Resource = resource_table
described HasRole = has_table HasRole
described HasCharacteristic = rated_table
described HasTerritory = has_table HasTerritory
described Member = member_table
described Group = no_table
described Booking = no_table
described Caller = no_table
described BookingNumbers = no_table

-- ---- what bodies have of them

-- the row of a table
abbrev pub row_form : Described → Form AnyRow
row_form t = made (λ x. t.row x.0 x.1) (both t.key t.rest)

-- a key in a table
abbrev pub keyed : Table → Form (ℕ × ℕ × ℕ) → Form Key
keyed table f = made (λ k. record { table = table; a = k.0; b = k.1; c = k.2 }) f

-- the key of a row of a table
abbrev pub key_form : Table → Form Key
key_form table = keyed table (described table).key

-- ---- groups

-- when a group may start: from a moment on, before another, by steps
unfoldable pub grid_form : Form (ℕ × ℕ × ℕ)
grid_form = three (one field.From moment_in) (one field.To moment_in) (one field.Step (whole_in greatest_u16))

-- a requirement group
unfoldable pub group_form : Form GroupRow
group_form =
    made (λ x. record { id = x.0.0; name = x.0.1; from = x.1.0.0; to = x.1.0.1; step = x.1.0.2; nodes = x.1.1.nodes; leaves = x.1.1.leaves })
    (both (both id_form (one field.Name text_in)) (both grid_form (one field.Tree tree_in)))
