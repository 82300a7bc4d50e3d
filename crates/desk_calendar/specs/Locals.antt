-- What the rows of one local day give.
use Rattle.std.specs.Prelude.{ℕ, List, find, if◌then◌else◌}
use Rattle.std.specs.List.{list_any}
use Rattle.std.specs.Option.{option_map_or}
use Rattle.desk_base.specs.declared.rows.calendars.WorkRow.{WorkRow}
use Rattle.desk_base.specs.declared.rows.calendars.BreakRow.{BreakRow}
use Rattle.desk_base.specs.declared.rows.calendars.DayRow.{DayRow}
use Rattle.desk_base.specs.declared.rows.tables.Tables.{Tables}
use Rattle.desk_base.specs.meaning.Time.{covers, local_time}
use Rattle.desk_base.specs.meaning.Capacity.{calendar_capacity, shifts_of}

-- what the day rows of a day give at a minute of it
abbrev pub day_given : List DayRow → ℕ → ℕ
day_given days m = option_map_or (λ d. d.capacity) (find (λ d. covers d.from d.to m) days) 0

-- what the breaks and the work of a weekday give
abbrev pub week_given : List BreakRow → List WorkRow → ℕ → ℕ
week_given breaks works m =
    if list_any (λ b. covers b.from b.to m) breaks
    then 0
    else option_map_or (λ w. w.capacity) (find (λ w. covers w.from w.to m) works) 0

-- what a calendar gives at a minute, by the clocks of its zone
abbrev pub calendar_at : Tables → ℕ → ℕ → ℕ
calendar_at t c m = calendar_capacity t c (local_time (shifts_of t c) m)
