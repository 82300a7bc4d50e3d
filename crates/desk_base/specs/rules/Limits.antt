-- The limits of minutes, numbers, rows, trees and pages, as the definitions name them.
use Rattle.std.specs.Prelude.{ℕ}
use Rattle.desk_base.specs.declared.limits.TheConstants.{FIRST_MINUTE, END_OF_MINUTES, MINUTES_A_DAY, FIRST_DAY, LAST_DAY, ID_LIMIT, SERIAL_LIMIT, REVISION_LIMIT, NAME_LIMIT, SHIFT_LIMIT, CAPACITY_LIMIT, EFFORT_LIMIT, RATING_LIMIT, DURATION_LIMIT, OFFSET_LIMIT, LIST_LIMIT, WINDOW_LIMIT, LEAST_STEP, NODE_LIMIT, LEAF_LIMIT, DEPTH_LIMIT, PAGE_LIMIT, PASSED_LIMIT, JOURNAL_LIMIT, SUMMARY_LIMIT}

-- 2000-01-01T00:00Z, in minutes since 1970-01-01T00:00Z
abbrev pub first_minute : ℕ
first_minute = FIRST_MINUTE

-- 2100-01-01T00:00Z, where the horizon ends
abbrev pub end_of_minutes : ℕ
end_of_minutes = END_OF_MINUTES

-- minutes of a day, the greatest step of a group and the greatest offset of a zone
abbrev pub minutes_a_day : ℕ
minutes_a_day = MINUTES_A_DAY

-- the first day that clocks can show, 1999-12-31, in days since 1970-01-01
abbrev pub first_day : ℕ
first_day = FIRST_DAY

-- the last such day, 2100-01-01
abbrev pub last_day : ℕ
last_day = LAST_DAY

-- the greatest id of a row
abbrev pub id_limit : ℕ
id_limit = ID_LIMIT

-- the greatest number of a booking, and of a caller's change
abbrev pub serial_limit : ℕ
serial_limit = SERIAL_LIMIT

-- the greatest revision
abbrev pub revision_limit : ℕ
revision_limit = REVISION_LIMIT

-- bytes of a name
abbrev pub name_limit : ℕ
name_limit = NAME_LIMIT

-- shifts of a zone
abbrev pub shift_limit : ℕ
shift_limit = SHIFT_LIMIT

-- the capacity that a row gives
abbrev pub capacity_limit : ℕ
capacity_limit = CAPACITY_LIMIT

-- the effort of a leaf
abbrev pub effort_limit : ℕ
effort_limit = EFFORT_LIMIT

-- the rating of a characteristic
abbrev pub rating_limit : ℕ
rating_limit = RATING_LIMIT

-- minutes of a leaf: 14 days
abbrev pub duration_limit : ℕ
duration_limit = DURATION_LIMIT

-- minutes from a group's start to the start of a leaf: 14 days
abbrev pub offset_limit : ℕ
offset_limit = OFFSET_LIMIT

-- entries of each list of a leaf
abbrev pub list_limit : ℕ
list_limit = LIST_LIMIT

-- minutes of a group's window: 90 days
abbrev pub window_limit : ℕ
window_limit = WINDOW_LIMIT

-- the least step of a group, in minutes
abbrev pub least_step : ℕ
least_step = LEAST_STEP

-- nodes of a tree
abbrev pub node_limit : ℕ
node_limit = NODE_LIMIT

-- leaves of a tree
abbrev pub leaf_limit : ℕ
leaf_limit = LEAF_LIMIT

-- the depth of a node: six levels, from 0
abbrev pub depth_limit : ℕ
depth_limit = DEPTH_LIMIT

-- rows of one page
abbrev pub page_limit : ℕ
page_limit = PAGE_LIMIT

-- positions that one page passes
abbrev pub passed_limit : ℕ
passed_limit = PASSED_LIMIT

-- entries of the journal of one opening
abbrev pub journal_limit : ℕ
journal_limit = JOURNAL_LIMIT

-- entries of the journal that one answer shows
abbrev pub summary_limit : ℕ
summary_limit = SUMMARY_LIMIT
