-- The field rules of each table, in the order in which they are judged.
use Rattle.std.specs.Prelude.{ℕ, ◌-◌, ℤ, pos, neg_ℤ, int_le, Bool, true, false, not, ◌&&◌, ◌==◌, nat_le, nat_lt, min, max, List, [], ◌∷◌, ◌++◌, map, length, is_some}
use Rattle.std.specs.List.{list_any, list_all}
use Rattle.std.specs.Option.{option_map_or}
use Rattle.desk_base.specs.rows.Types.{Tables, ZoneRow, WorkRow, ResourceRow, GroupRow, Leaf, Window}
use Rattle.desk_base.specs.declared.rows.calendars.BreakRow.{BreakRow}
use Rattle.desk_base.specs.declared.rows.calendars.CalendarRow.{CalendarRow}
use Rattle.desk_base.specs.declared.rows.calendars.DayRow.{DayRow}
use Rattle.desk_base.specs.declared.rows.calendars.OffRow.{OffRow}
use Rattle.desk_base.specs.declared.rows.resources.NamedRow.{NamedRow}
use Rattle.desk_base.specs.declared.rows.resources.HasRow.{HasRow}
use Rattle.desk_base.specs.declared.rows.resources.MemberRow.{MemberRow}
use Rattle.desk_base.specs.declared.rows.bookings.BookingRow.{BookingRow}
use Rattle.desk_base.specs.declared.asked.rules.Field.{Field}
use Rattle.desk_base.specs.declared.asked.rules.Field.TheVariants.{Name, Shifts, Weekday, To, Capacity, Overlap, Day, Id, Kind, Calendar, Rating, Group, Member, Step, Duration, Offset, Effort, Kinds, Roles, Characteristics, Territories, Units, Required, Restricted, Window as OwnWindow}
use Rattle.desk_base.specs.rules.Limits.{first_minute, end_of_minutes, minutes_a_day, name_limit, shift_limit, list_limit, window_limit, id_limit, first_day, last_day, capacity_limit, effort_limit, rating_limit, duration_limit, offset_limit, least_step}
use Rattle.desk_base.specs.meaning.Capacity.{resource_of}
use Rattle.desk_base.specs.meaning.Load.{LoadSort, plain, crew, pool, sort_of, sort_of_kind}
use Rattle.desk_base.specs.meaning.Eligible.{kind_number}

-- the rules of a row in the order in which they are judged: whether each holds, and the field that is named where it does not
abbrev pub Rules : Type 0
Rules = List (Bool × Field)

-- n lies from low to high
abbrev pub is_within_range : ℕ → ℕ → ℕ → Bool
is_within_range low high n = nat_le low n && nat_le n high

-- 1 to 60 bytes, none of them a control character
abbrev pub is_name : List ℕ → Bool
is_name bytes = is_within_range 1 name_limit (length bytes) && list_all (λ b. nat_le 32 b && not (b == 127)) bytes

-- two ranges, each from a number on and below another, have a number in common
abbrev pub overlaps : ℕ → ℕ → ℕ → ℕ → Bool
overlaps from to from' to' = nat_lt (max from from') (min to to')

-- no element stands twice
abbrev pub are_distinct : List ℕ → Bool
are_distinct [] = true
are_distinct (x ∷ xs) = not (list_any (λ y. y == x) xs) && are_distinct xs

-- each number is above all before it
abbrev pub are_rising : List ℕ → Bool
are_rising [] = true
are_rising (x ∷ xs) = list_all (λ y. nat_lt x y) xs && are_rising xs

-- the first shift begins at m
abbrev pub begins_at : ℕ → List (ℕ × ℤ) → Bool
begins_at m [] = false
begins_at m (s ∷ ss) = s.0 == m

-- the shifts of a zone begin with the horizon, rise in it, and shift by a day at most
abbrev pub are_shifts : List (ℕ × ℤ) → Bool
are_shifts ss =
    nat_le (length ss) shift_limit && begins_at first_minute ss && are_rising (map (λ s. s.0) ss)
    && list_all (λ s. nat_le s.0 end_of_minutes && int_le (neg_ℤ (pos minutes_a_day)) s.1 && int_le s.1 (pos minutes_a_day)) ss

-- a zone has a name and shifts
abbrev pub zone_rules : ZoneRow → Rules
zone_rules z = (is_name z.name, Name) ∷ (are_shifts z.shifts, Shifts) ∷ []

-- a calendar has a name
abbrev pub calendar_rules : CalendarRow → Rules
calendar_rules c = (is_name c.name, Name) ∷ []

-- a time of one day, not empty
abbrev pub is_part_of_day : ℕ → ℕ → Bool
is_part_of_day from to = nat_lt from to && nat_le to minutes_a_day

-- a work row meets no other of its calendar and weekday
abbrev pub work_rules : Tables → WorkRow → Rules
work_rules t w =
    (nat_le w.weekday 6, Weekday) ∷ (is_part_of_day w.from w.to, To) ∷ (is_within_range 1 capacity_limit w.capacity, Capacity)
    ∷ (not (list_any (λ x. (x.calendar == w.calendar) && (x.weekday == w.weekday) && not (x.from == w.from) && overlaps x.from x.to w.from w.to) t.works), Overlap) ∷ []

-- breaks may meet
abbrev pub break_rules : BreakRow → Rules
break_rules b = (nat_le b.weekday 6, Weekday) ∷ (is_part_of_day b.from b.to, To) ∷ []

-- a day row meets no other of its calendar and day
abbrev pub day_rules : Tables → DayRow → Rules
day_rules t d =
    (is_within_range first_day last_day d.day, Day) ∷ (is_part_of_day d.from d.to, To) ∷ (nat_le d.capacity capacity_limit, Capacity)
    ∷ (not (list_any (λ x. (x.calendar == d.calendar) && (x.day == d.day) && not (x.from == d.from) && overlaps x.from x.to d.from d.to) t.days), Overlap) ∷ []

-- a time off is not empty
abbrev pub off_rules : OffRow → Rules
off_rules o = (nat_lt o.from o.to, To) ∷ []

-- a named row has an id and a name
abbrev pub named_rules : NamedRow → Rules
named_rules n = (is_within_range 1 id_limit n.id, Id) ∷ (is_name n.name, Name) ∷ []

-- neither a crew nor a pool nor unknown
abbrev pub is_plain : LoadSort → Bool
is_plain plain = true
is_plain _ = false

-- a crew or a pool
abbrev pub is_group : LoadSort → Bool
is_group crew = true
is_group pool = true
is_group _ = false

-- both or neither
abbrev pub same_bit : Bool → Bool → Bool
same_bit true b = b
same_bit false b = not b

-- the resource that stands under the same id, if any, has the same kind
abbrev pub keeps_kind : Tables → ResourceRow → Bool
keeps_kind t r = option_map_or (λ x. kind_number x.kind == kind_number r.kind) (resource_of t r.id) true

-- a resource has a calendar exactly where it is plain
abbrev pub resource_rules : Tables → ResourceRow → Rules
resource_rules t r = (is_name r.name, Name) ∷ (keeps_kind t r, Kind) ∷ (same_bit (is_some r.calendar) (is_plain (sort_of_kind r.kind)), Calendar) ∷ []

-- a role or a territory has no rating, and 0 in its place
abbrev pub unrated_rules : HasRow → Rules
unrated_rules h = (h.rating == 0, Rating) ∷ []

-- a characteristic has a rating from 1 to 10
abbrev pub rated_rules : HasRow → Rules
rated_rules h = (is_within_range 1 rating_limit h.rating, Rating) ∷ []

-- both are resources, and of one kind
abbrev pub are_of_one_kind : Tables → ℕ → ℕ → Bool
are_of_one_kind t a b = option_map_or (λ x. option_map_or (λ y. kind_number x.kind == kind_number y.kind) (resource_of t b) false) (resource_of t a) false

-- the two rows have one key
abbrev pub is_same_membership : MemberRow → MemberRow → Bool
is_same_membership x y = (x.group == y.group) && (x.member == y.member) && (x.from == y.from)

-- a plain resource is in at most one crew and one pool at a time
abbrev pub member_rules : Tables → MemberRow → Rules
member_rules t x =
    (is_group (sort_of t x.group), Group) ∷ (is_plain (sort_of t x.member), Member) ∷ (nat_lt x.from x.to, To)
    ∷ (not (list_any (λ y. (y.member == x.member) && not (is_same_membership y x) && are_of_one_kind t y.group x.group && overlaps y.from y.to x.from x.to) t.members), Overlap) ∷ []

-- at most 16 entries, none twice
abbrev pub is_list : List ℕ → Bool
is_list xs = nat_le (length xs) list_limit && are_distinct xs

-- the ranges of a leaf, its lists, and its own window, which is not empty
abbrev pub leaf_rules : Leaf → Rules
leaf_rules l =
    (is_within_range 1 duration_limit l.duration, Duration) ∷ (nat_le l.offset offset_limit, Offset) ∷ (is_within_range 1 effort_limit l.effort, Effort)
    ∷ (is_list (map kind_number l.kinds), Kinds) ∷ (is_list l.roles, Roles) ∷ (is_list (map (λ c. c.0) l.characteristics), Characteristics)
    ∷ (is_list l.territories, Territories) ∷ (is_list l.units, Units) ∷ (is_list l.required, Required) ∷ (is_list l.restricted, Restricted)
    ∷ (list_all (λ c. is_within_range 1 rating_limit c.1) l.characteristics, Rating)
    ∷ (option_map_or (λ (w : Window). nat_lt w.from w.to) l.window true, OwnWindow) ∷ []

-- the rules of each element, in order
abbrev pub join_rules : {A : Type 0} → (A → Rules) → List A → Rules
join_rules f [] = []
join_rules f (x ∷ xs) = f x ++ join_rules f xs

-- a group has a name, a window of 1 minute to 90 days and a step of 5 minutes to a day; then come its leaves, one by one
abbrev pub group_rules : GroupRow → Rules
group_rules g =
    (is_name g.name, Name) ∷ (nat_lt g.from g.to && nat_le (g.to - g.from) window_limit, To) ∷ (is_within_range least_step minutes_a_day g.step, Step)
    ∷ join_rules leaf_rules g.leaves

-- a booking is not empty, and has an effort
abbrev pub booking_rules : BookingRow → Rules
booking_rules b = (nat_lt b.from b.to, To) ∷ (is_within_range 1 effort_limit b.effort, Effort) ∷ []
