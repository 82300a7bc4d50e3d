-- Which changes a body can ask for.
use Rattle.std.specs.Prelude.{◌≡◌, ◌≤◌, ⊤}
use Rattle.desk_base.specs.declared.rows.tables.Table.{Table}
use Rattle.desk_base.specs.declared.rows.tables.AnyRow.{AnyRow}
use Rattle.desk_base.specs.declared.rows.tables.AnyRow.TheVariants.{Zone, Calendar, Work, Break, Day, Off, Unit, Site, Role, Characteristic, Territory, Resource, HasRole, HasCharacteristic, HasTerritory, Member, Group, Booking, Caller}
use Rattle.desk_base.specs.declared.asked.acts.Act.{Act}
use Rattle.desk_base.specs.declared.asked.acts.Act.TheVariants.{Put, Remove, PutGroup, DropGroup, BookGroup, MoveGroup, CancelGroup}
use Rattle.desk_base.specs.declared.asked.answers.Command.{Command}
use Rattle.desk_base.specs.declared.asked.answers.Command.TheVariants.{Change}
use Rattle.desk_base.specs.rows.Keys.{table_number}
use Rattle.desk_base.specs.declared.rows.tables.Table.TheVariants as table

-- a row that a body can put: one of a table up to memberships, with a rating for a characteristic alone
abbrev pub IsAskedRow : AnyRow → Type 0
IsAskedRow (Zone z) = ⊤
IsAskedRow (Calendar c) = ⊤
IsAskedRow (Work w) = ⊤
IsAskedRow (Break b) = ⊤
IsAskedRow (Day d) = ⊤
IsAskedRow (Off o) = ⊤
IsAskedRow (Unit u) = ⊤
IsAskedRow (Site s) = ⊤
IsAskedRow (Role r) = ⊤
IsAskedRow (Characteristic c) = ⊤
IsAskedRow (Territory t) = ⊤
IsAskedRow (Resource r) = ⊤
IsAskedRow (HasRole h) = h.rating ≡ 0
IsAskedRow (HasCharacteristic h) = ⊤
IsAskedRow (HasTerritory h) = h.rating ≡ 0
IsAskedRow (Member m) = ⊤
IsAskedRow (Group g) = ⊥
IsAskedRow (Booking b) = ⊥
IsAskedRow (Caller c) = ⊥

-- a table up to memberships
abbrev pub IsAskedTable : Table → Type 0
IsAskedTable t = table_number t ≤ table_number table.Member

-- an act that a body can ask for
abbrev pub IsAskedAct : Act → Type 0
IsAskedAct (Put row) = IsAskedRow row
IsAskedAct (Remove key) = IsAskedTable key.table
IsAskedAct (PutGroup g) = ⊤
IsAskedAct (DropGroup group) = ⊤
IsAskedAct (BookGroup group start picks) = ⊤
IsAskedAct (MoveGroup group start picks) = ⊤
IsAskedAct (CancelGroup group) = ⊤

-- a command that a body can ask for
abbrev pub IsAsked : Command → Type 0
IsAsked (Change call act) = IsAskedAct act
IsAsked _ = ⊥
