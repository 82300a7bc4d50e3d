-- What is kept of a row of a table up to memberships: all its fields, as a body that puts it has them.
use Rattle.std.specs.Prelude.{codes}
use Rattle.serde_json.specs.Data.{Data, string, object, no_members, member}
use Rattle.desk_base.specs.declared.rows.calendars.ZoneRow.{ZoneRow}
use Rattle.desk_base.specs.declared.rows.calendars.CalendarRow.{CalendarRow}
use Rattle.desk_base.specs.declared.rows.calendars.WorkRow.{WorkRow}
use Rattle.desk_base.specs.declared.rows.calendars.BreakRow.{BreakRow}
use Rattle.desk_base.specs.declared.rows.calendars.DayRow.{DayRow}
use Rattle.desk_base.specs.declared.rows.calendars.OffRow.{OffRow}
use Rattle.desk_base.specs.declared.rows.resources.NamedRow.{NamedRow}
use Rattle.desk_base.specs.declared.rows.resources.ResourceRow.{ResourceRow}
use Rattle.desk_base.specs.declared.rows.resources.HasRow.{HasRow}
use Rattle.desk_base.specs.declared.rows.resources.MemberRow.{MemberRow}
use Rattle.desk_json.specs.Values.{whole_number, number_or_null, moment_data}
use Rattle.desk_kept.specs.Values.{day_data, kind_data, shifts_data}

abbrev pub zone_data : ZoneRow → Data
zone_data z =
    object (member (codes "id") (whole_number z.id)
    (member (codes "name") (string z.name)
    (member (codes "shifts") (shifts_data z.shifts) no_members)))

abbrev pub calendar_data : CalendarRow → Data
calendar_data c =
    object (member (codes "id") (whole_number c.id)
    (member (codes "name") (string c.name)
    (member (codes "zone") (whole_number c.zone) no_members)))

abbrev pub work_data : WorkRow → Data
work_data w =
    object (member (codes "calendar") (whole_number w.calendar)
    (member (codes "capacity") (whole_number w.capacity)
    (member (codes "from") (whole_number w.from)
    (member (codes "to") (whole_number w.to)
    (member (codes "weekday") (whole_number w.weekday) no_members)))))

abbrev pub break_data : BreakRow → Data
break_data b =
    object (member (codes "calendar") (whole_number b.calendar)
    (member (codes "from") (whole_number b.from)
    (member (codes "to") (whole_number b.to)
    (member (codes "weekday") (whole_number b.weekday) no_members))))

abbrev pub day_row_data : DayRow → Data
day_row_data d =
    object (member (codes "calendar") (whole_number d.calendar)
    (member (codes "capacity") (whole_number d.capacity)
    (member (codes "day") (day_data d.day)
    (member (codes "from") (whole_number d.from)
    (member (codes "to") (whole_number d.to) no_members)))))

abbrev pub off_data : OffRow → Data
off_data o =
    object (member (codes "from") (moment_data o.from)
    (member (codes "resource") (whole_number o.resource)
    (member (codes "to") (moment_data o.to) no_members)))

abbrev pub named_data : NamedRow → Data
named_data n = object (member (codes "id") (whole_number n.id) (member (codes "name") (string n.name) no_members))

abbrev pub resource_data : ResourceRow → Data
resource_data r =
    object (member (codes "calendar") (number_or_null r.calendar)
    (member (codes "id") (whole_number r.id)
    (member (codes "kind") (kind_data r.kind)
    (member (codes "name") (string r.name)
    (member (codes "site") (whole_number r.site)
    (member (codes "unit") (whole_number r.unit) no_members))))))

-- without a rating
abbrev pub has_data : HasRow → Data
has_data h = object (member (codes "resource") (whole_number h.resource) (member (codes "what") (whole_number h.what) no_members))

-- with a rating
abbrev pub rated_data : HasRow → Data
rated_data h =
    object (member (codes "rating") (whole_number h.rating)
    (member (codes "resource") (whole_number h.resource)
    (member (codes "what") (whole_number h.what) no_members)))

abbrev pub member_data : MemberRow → Data
member_data x =
    object (member (codes "from") (moment_data x.from)
    (member (codes "group") (whole_number x.group)
    (member (codes "member") (whole_number x.member)
    (member (codes "to") (moment_data x.to) no_members))))
