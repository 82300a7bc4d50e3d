-- Tables that lack a row for a while.
use Rattle.desk_base.specs.rows.Types.{Tables}
use Rattle.desk_base.specs.declared.changes.lacking.RoomList.{RoomList}
use Rattle.desk_base.specs.declared.changes.lacking.RoomList.TheVariants.{Zones, Calendars, Works, Breaks, Days, Offs, Resources, Members}

-- the tables as they were, and without the row
pub record LackingRow : Type 0 where
  pub before : Tables
  pub tables : Tables

-- the tables with these rows as their list
abbrev pub with_list : Tables → RoomList → Tables
with_list t (Zones rows) = record t { zones = rows }
with_list t (Calendars rows) = record t { calendars = rows }
with_list t (Works rows) = record t { works = rows }
with_list t (Breaks rows) = record t { breaks = rows }
with_list t (Days rows) = record t { days = rows }
with_list t (Offs rows) = record t { offs = rows }
with_list t (Resources rows) = record t { resources = rows }
with_list t (Members rows) = record t { members = rows }
