-- What the body of a change asks for.
use Rattle.std.specs.Prelude.{ℕ, List, [], ◌∷◌, ◌++◌, map, codes, bytes_eq, find, Option, option_map, Result, Ok, if◌then◌else◌}
use Rattle.std.specs.Str.{is_utf8}
use Rattle.std.specs.Option.{option_or}
use Rattle.serde_json.specs.Data.{Data}
use Rattle.serde_json.specs.Read.{read}
use Rattle.desk_base.specs.declared.rows.tables.Table.{Table}
use Rattle.desk_base.specs.declared.rows.tables.Table.TheVariants.{Zone, Calendar, Work, Break, Day, Off, Unit, Site, Role, Characteristic, Territory, Resource, HasRole, HasCharacteristic, HasTerritory, Member}
use Rattle.desk_base.specs.declared.asked.rules.Field.{Field}
use Rattle.desk_base.specs.declared.asked.rules.Field.TheVariants as field
use Rattle.desk_base.specs.declared.asked.acts.Act.{Act}
use Rattle.desk_base.specs.declared.asked.acts.Act.TheVariants as act
use Rattle.desk_base.specs.declared.asked.acts.Call.{Call}
use Rattle.desk_base.specs.declared.asked.answers.Command.{Command}
use Rattle.desk_base.specs.declared.asked.answers.Command.TheVariants as command
use Rattle.desk_base.specs.declared.asked.summaries.ActCode.{ActCode}
use Rattle.desk_base.specs.declared.asked.summaries.ActCode.TheVariants.{Put, Remove, PutGroup, DropGroup, BookGroup, MoveGroup, CancelGroup}
use Rattle.desk_json.specs.declared.faults.BodyError.{BodyError}
use Rattle.desk_json.specs.declared.faults.BodyRule.TheVariants.{Syntax, Object, Range}
use Rattle.desk_json.specs.Faults.{fault, ◌>>=◌, IsRead}
use Rattle.desk_json.specs.Words.{table_name}
use Rattle.desk_json.specs.Journals.{act_name}
use Rattle.desk_json.specs.Reading.{id_in, id_or_null_in, serial_in, text_in, moment_in, named, or_fault}
use Rattle.desk_json.specs.Lists.{list_in}
use Rattle.desk_json.specs.TreeReading.{object_in, with_only}
use Rattle.desk_json.specs.Forms.{Form, one, both, three, made}
use Rattle.desk_json.specs.Tables.{described, row_form, key_form, group_form}

-- ---- acts

-- the tables whose rows are put and removed one by one
abbrev pub row_tables : List Table
row_tables =
    Zone ∷ Calendar ∷ Work ∷ Break ∷ Day ∷ Off ∷ Unit ∷ Site ∷ Role ∷ Characteristic ∷ Territory ∷ Resource ∷ HasRole ∷ HasCharacteristic ∷ HasTerritory
    ∷ Member ∷ []

-- the acts that are of groups, by their names
abbrev pub group_acts : List (List ℕ × ActCode)
group_acts = map (λ a. (act_name a, a)) (PutGroup ∷ DropGroup ∷ BookGroup ∷ MoveGroup ∷ CancelGroup ∷ [])

-- the table whose name stands behind a front
abbrev pub table_behind : List ℕ → List ℕ → Option Table
table_behind front text = find (λ table. bytes_eq (front ++ table_name table) text) row_tables

-- the act of a name
unfoldable pub act_named : List ℕ → Option ActCode
act_named text =
    option_or (option_map Put (table_behind (codes "put_") text))
    (option_or (option_map Remove (table_behind (codes "remove_") text)) (named group_acts text))

-- an act is its name
unfoldable pub act_name_in : Field → Data → Result ActCode BodyError
act_name_in field d = text_in field d >>= λ text. or_fault (fault Range field) (act_named text)

-- a booking of a group: the group, the start, and for each leaf the number of a resource, or null for one that is left out
unfoldable pub booking_form : Form (ℕ × ℕ × List (Option ℕ))
booking_form = three (one field.Group id_in) (one field.Start moment_in) (one field.Picks (list_in id_or_null_in))

-- the fields of an act, and what they are read as
abbrev pub act_form : ActCode → Form Act
act_form (Put table) = made act.Put (row_form (described table))
act_form (Remove table) = made act.Remove (key_form table)
act_form PutGroup = made act.PutGroup group_form
act_form DropGroup = made act.DropGroup (one field.Group id_in)
act_form BookGroup = made (λ x. act.BookGroup x.0 x.1 x.2) booking_form
act_form MoveGroup = made (λ x. act.MoveGroup x.0 x.1 x.2) booking_form
act_form CancelGroup = made act.CancelGroup (one field.Group id_in)

-- ---- bodies

-- what each body begins with: the act, the caller, and the caller's number of the change
unfoldable pub head_form : Form (ActCode × Call)
head_form = both (one field.Act act_name_in) (made (λ x. record { caller = x.0; number = x.1 }) (both (one field.Caller id_in) (one field.Number serial_in)))

-- the names that the body of an act may have
unfoldable pub names_of : ActCode → List (List ℕ)
names_of a = head_form.names ++ (act_form a).names

-- the act of a body, which has no other names
unfoldable pub act_in : ActCode → Data → Result Act BodyError
act_in a d = (act_form a).read d >>= with_only (names_of a) field.Other d

-- the change that a body asks for, or its first fault
unfoldable pub change_in : Data → Result Command BodyError
change_in d =
    object_in Object field.Body d >>= λ _.
    head_form.read d >>= λ head.
    act_in head.0 d >>= λ asked. Ok (command.Change head.1 asked)

-- the JSON of the bytes
unfoldable pub parsed : List ℕ → Result Data BodyError
parsed body = if is_utf8 body then or_fault (fault Syntax field.Body) (read body) else fault Syntax field.Body

-- the answer is the change that the bytes ask for, or their first fault; but memory may be wanting
abbrev pub Reads : List ℕ → Result Command BodyError → Type 0
Reads body = IsRead (parsed body >>= change_in)
