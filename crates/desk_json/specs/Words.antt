-- The names that stand in answers: of tables, of fields and of rules.
use Rattle.std.specs.Prelude.{ℕ, List, codes}
use Rattle.desk_base.specs.declared.rows.tables.Table.{Table}
use Rattle.desk_base.specs.declared.rows.tables.Table.TheVariants.{Zone, Calendar, Work, Break, Day, Off, Unit, Site, Role, Characteristic, Territory, Resource, HasRole, HasCharacteristic, HasTerritory, Member, Group, Booking, Caller, BookingNumbers}
use Rattle.desk_base.specs.declared.asked.rules.Field.{Field}
use Rattle.desk_base.specs.declared.asked.rules.Field.TheVariants as field
use Rattle.desk_base.specs.declared.asked.rules.LeafRule.{LeafRule}
use Rattle.desk_base.specs.declared.asked.rules.LeafRule.TheVariants as leaf_rule
use Rattle.desk_base.specs.declared.asked.rules.TreeRule.{TreeRule}
use Rattle.desk_base.specs.declared.asked.rules.TreeRule.TheVariants as tree_rule

-- the name of a table
abbrev pub table_name : Table → List ℕ
table_name Zone = codes "zone"
table_name Calendar = codes "calendar"
table_name Work = codes "work"
table_name Break = codes "break"
table_name Day = codes "day"
table_name Off = codes "off"
table_name Unit = codes "unit"
table_name Site = codes "site"
table_name Role = codes "role"
table_name Characteristic = codes "characteristic"
table_name Territory = codes "territory"
table_name Resource = codes "resource"
table_name HasRole = codes "has_role"
table_name HasCharacteristic = codes "has_characteristic"
table_name HasTerritory = codes "has_territory"
table_name Member = codes "member"
table_name Group = codes "group"
table_name Booking = codes "booking"
table_name Caller = codes "caller"
table_name BookingNumbers = codes "booking_numbers"

-- the name of a field
abbrev pub field_name : Field → List ℕ
field_name field.Name = codes "name"
field_name field.Shifts = codes "shifts"
field_name field.Weekday = codes "weekday"
field_name field.To = codes "to"
field_name field.Capacity = codes "capacity"
field_name field.Overlap = codes "overlap"
field_name field.Day = codes "day"
field_name field.Id = codes "id"
field_name field.Kind = codes "kind"
field_name field.Calendar = codes "calendar"
field_name field.Rating = codes "rating"
field_name field.Group = codes "group"
field_name field.Member = codes "member"
field_name field.Step = codes "step"
field_name field.Duration = codes "duration"
field_name field.Offset = codes "offset"
field_name field.Effort = codes "effort"
field_name field.Kinds = codes "kinds"
field_name field.Roles = codes "roles"
field_name field.Characteristics = codes "characteristics"
field_name field.Territories = codes "territories"
field_name field.Units = codes "units"
field_name field.Required = codes "required"
field_name field.Restricted = codes "restricted"
field_name field.Window = codes "window"
field_name field.Limit = codes "limit"
field_name field.Per = codes "per"
field_name field.Act = codes "act"
field_name field.Caller = codes "caller"
field_name field.Number = codes "number"
field_name field.Zone = codes "zone"
field_name field.From = codes "from"
field_name field.Resource = codes "resource"
field_name field.Unit = codes "unit"
field_name field.Site = codes "site"
field_name field.What = codes "what"
field_name field.Tree = codes "tree"
field_name field.Start = codes "start"
field_name field.Picks = codes "picks"
field_name field.Body = codes "body"
field_name field.Other = codes "other"

-- the name of a rule of a leaf
abbrev pub leaf_rule_name : LeafRule → List ℕ
leaf_rule_name leaf_rule.Kind = codes "kind"
leaf_rule_name leaf_rule.Role = codes "role"
leaf_rule_name leaf_rule.Characteristic = codes "characteristic"
leaf_rule_name leaf_rule.Territory = codes "territory"
leaf_rule_name leaf_rule.Unit = codes "unit"
leaf_rule_name leaf_rule.Required = codes "required"
leaf_rule_name leaf_rule.Restricted = codes "restricted"
leaf_rule_name leaf_rule.Window = codes "window"

-- the name of a rule of a tree
abbrev pub tree_rule_name : TreeRule → List ℕ
tree_rule_name tree_rule.Empty = codes "empty"
tree_rule_name tree_rule.Nodes = codes "nodes"
tree_rule_name tree_rule.Order = codes "order"
tree_rule_name tree_rule.Depth = codes "depth"
tree_rule_name tree_rule.Childless = codes "childless"
tree_rule_name tree_rule.Leaves = codes "leaves"
