-- The field rules of a leaf, in three parts.
use Rattle.std.specs.Prelude.{true, nat_le, nat_lt, [], ◌∷◌, map}
use Rattle.std.specs.List.{list_all}
use Rattle.std.specs.Option.{option_map_or}
use Rattle.desk_base.specs.declared.rows.groups.Leaf.{Leaf}
use Rattle.desk_base.specs.declared.values.minutes.Window.{Window}
use Rattle.desk_base.specs.declared.asked.rules.Field.TheVariants.{Duration, Offset, Effort, Kinds, Roles, Characteristics, Territories, Units, Required, Restricted, Rating, Window as OwnWindow}
use Rattle.desk_base.specs.rules.Fields.{Rules, is_within_range, is_list}
use Rattle.desk_base.specs.rules.Limits.{duration_limit, offset_limit, effort_limit, rating_limit}
use Rattle.desk_base.specs.meaning.Eligible.{kind_number}

-- its duration, offset and effort are in range
abbrev pub number_rules : Leaf → Rules
number_rules l = (is_within_range 1 duration_limit l.duration, Duration) ∷ (nat_le l.offset offset_limit, Offset) ∷ (is_within_range 1 effort_limit l.effort, Effort) ∷ []

-- each of its lists is short, and has nothing twice
abbrev pub list_rules : Leaf → Rules
list_rules l =
    (is_list (map kind_number l.kinds), Kinds) ∷ (is_list l.roles, Roles) ∷ (is_list (map (λ c. c.0) l.characteristics), Characteristics)
    ∷ (is_list l.territories, Territories) ∷ (is_list l.units, Units) ∷ (is_list l.required, Required) ∷ (is_list l.restricted, Restricted) ∷ []

-- its ratings are in range, and its own window is not empty
abbrev pub last_rules : Leaf → Rules
last_rules l =
    (list_all (λ c. is_within_range 1 rating_limit c.1) l.characteristics, Rating)
    ∷ (option_map_or (λ (w : Window). nat_lt w.from w.to) l.window true, OwnWindow) ∷ []
