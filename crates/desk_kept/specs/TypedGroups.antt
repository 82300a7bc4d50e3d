-- What the types of fields say of them, whatever rules a row keeps: of groups and their leaves.
use Rattle.std.specs.Prelude.{ℕ, ◌≤◌, All, Option, MatchOption, ⊤}
use Rattle.std.specs.Str.{IsUtf8}
use Rattle.desk_base.specs.declared.values.minutes.Window.{Window}
use Rattle.desk_base.specs.declared.rows.groups.Leaf.{Leaf}
use Rattle.desk_base.specs.declared.rows.groups.GroupRow.{GroupRow}
use Rattle.desk_time.specs.Limits.{IsMoment}
use Rattle.desk_json.specs.Decimals.{IsId}
use Rattle.desk_json.specs.Reading.{greatest_u8, greatest_u16, greatest_u32}

-- a characteristic, and a rating
abbrev pub IsRating : ℕ × ℕ → Type 0
IsRating c = IsId c.0 × (c.1 ≤ greatest_u8)

abbrev pub IsWindow : Window → Type 0
IsWindow w = IsMoment w.from × IsMoment w.to

abbrev pub IsWindowOrNone : Option Window → Type 0
IsWindowOrNone window = MatchOption window ⊤ IsWindow

pub record IsLeaf (l : Leaf) : Type 0 where
  pub duration : l.duration ≤ greatest_u32
  pub offset : l.offset ≤ greatest_u32
  pub effort : l.effort ≤ greatest_u32
  pub roles : All IsId l.roles
  pub characteristics : All IsRating l.characteristics
  pub territories : All IsId l.territories
  pub units : All IsId l.units
  pub required : All IsId l.required
  pub restricted : All IsId l.restricted
  pub window : IsWindowOrNone l.window

pub record IsGroup (g : GroupRow) : Type 0 where
  pub id : IsId g.id
  pub name : IsUtf8 g.name
  pub from : IsMoment g.from
  pub to : IsMoment g.to
  pub step : g.step ≤ greatest_u16
  pub leaves : All IsLeaf g.leaves
