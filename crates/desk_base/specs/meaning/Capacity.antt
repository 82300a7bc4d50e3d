-- The capacity of a plain resource.
use Rattle.std.specs.Prelude.{ℕ, ℤ, ◌&&◌, ◌==◌, List, [], Option, find, option_and_then, if◌then◌else◌}
use Rattle.std.specs.List.{list_any}
use Rattle.std.specs.Option.{option_map_or}
use Rattle.desk_base.specs.rows.Types.{Tables, ResourceRow}
use Rattle.desk_base.specs.meaning.Time.{covers, local_time, LocalTime, weekday_of}

-- the resource of this id, if there is one
abbrev pub resource_of : Tables → ℕ → Option ResourceRow
resource_of t r = find (λ x. x.id == r) t.resources

-- its calendar, if it has one
abbrev pub calendar_of : Tables → ℕ → Option ℕ
calendar_of t r = option_and_then (λ x. x.calendar) (resource_of t r)

-- the shifts of a calendar's zone; none where the calendar or the zone is not there
abbrev pub shifts_of : Tables → ℕ → List (ℕ × ℤ)
shifts_of t c = option_map_or (λ z. z.shifts) (option_and_then (λ x. find (λ z. z.id == x.zone) t.zones) (find (λ x. x.id == c) t.calendars)) []

-- what a calendar gives at a local time: where it has day rows of the day, what the one that covers the minute gives; else nothing in a break of the weekday; else what the work row of the weekday that covers the minute gives
unfoldable pub calendar_capacity : Tables → ℕ → LocalTime → ℕ
calendar_capacity t c at =
    if list_any (λ d. (d.calendar == c) && (d.day == at.day)) t.days
    then option_map_or (λ d. d.capacity) (find (λ d. (d.calendar == c) && (d.day == at.day) && covers d.from d.to at.minute) t.days) 0
    else if list_any (λ b. (b.calendar == c) && (b.weekday == weekday_of at.day) && covers b.from b.to at.minute) t.breaks
    then 0
    else option_map_or (λ w. w.capacity) (find (λ w. (w.calendar == c) && (w.weekday == weekday_of at.day) && covers w.from w.to at.minute) t.works) 0

-- the capacity of a resource at m: nothing in a time off, and else what its calendar gives at the local time
unfoldable pub capacity : Tables → ℕ → ℕ → ℕ
capacity t r m =
    if list_any (λ o. (o.resource == r) && covers o.from o.to m) t.offs
    then 0
    else option_map_or (λ c. calendar_capacity t c (local_time (shifts_of t c) m)) (calendar_of t r) 0
