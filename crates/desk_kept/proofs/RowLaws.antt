-- Rows of the tables up to memberships are read again as they were written.
use Rattle.std.proofs.Common.{◌≡◌, All, Ok, refl, sym, ap, arith}
use Rattle.desk_base.specs.declared.rows.calendars.ZoneRow.{ZoneRow}
use Rattle.desk_base.specs.declared.rows.calendars.CalendarRow.{CalendarRow}
use Rattle.desk_base.specs.declared.rows.calendars.WorkRow.{WorkRow}
use Rattle.desk_base.specs.declared.rows.calendars.BreakRow.{BreakRow}
use Rattle.desk_base.specs.declared.rows.calendars.DayRow.{DayRow}
use Rattle.desk_base.specs.declared.rows.calendars.OffRow.{OffRow}
use Rattle.desk_base.specs.declared.rows.resources.NamedRow.{NamedRow}
use Rattle.desk_base.specs.declared.rows.resources.ResourceRow.{ResourceRow}
use Rattle.desk_base.specs.declared.rows.resources.HasRow.{HasRow}
use Rattle.desk_base.specs.declared.rows.resources.MemberRow.{MemberRow}
use Rattle.desk_base.specs.declared.rows.tables.AnyRow.TheVariants.{Zone, Calendar, Work, Break, Day, Off, Unit, Site, Role, Characteristic, Territory, Resource, HasRole, HasCharacteristic, HasTerritory, Member}
use Rattle.desk_base.specs.declared.asked.rules.Field.TheVariants as field
use Rattle.desk_time.specs.Limits.{IsDay}
use Rattle.desk_json.specs.Reading.{greatest_u8, greatest_u16}
use Rattle.desk_json.specs.Lists.{shift_in}
use Rattle.desk_json.specs.Forms.{under}
use Rattle.desk_json.specs.Tables.{zone_table, calendar_table, work_table, break_table, day_table, off_table, named_table, resource_table, has_table, rated_table, member_table, week_form, date_form, off_form, has_form, member_form, nature_form, place_form}
use Rattle.desk_kept.specs.Values.{shift_data}
use Rattle.desk_kept.specs.Rows.{zone_data, calendar_data, work_data, break_data, day_row_data, off_data, named_data, resource_data, has_data, rated_data, member_data}
use Rattle.desk_kept.specs.Kept.{kept_form}
use Rattle.desk_kept.specs.TypedRows.{IsZone, IsCalendar, IsWork, IsBreak, IsDayRow, IsOff, IsNamed, IsResource, IsHas, IsMembership}
use Rattle.desk_kept.proofs.KeptValues.{IsKept, whole_kept, u32_kept, id_kept, id_or_null_kept, text_kept, moment_kept, day_kept, kind_kept, list_kept}
use Rattle.desk_kept.proofs.ReadRows.{IsReadBack, read_in}

pub zone_back : (z : ZoneRow) → IsZone z → All (λ s. IsKept shift_in 1 (shift_data s) s) z.shifts → IsReadBack (Zone z)
unfolding kept_form zone_table under
zone_back z is each =
    let id = id_kept z.id is.id in
    let name = text_kept z.name is.name in
    let shifts = list_kept shift_in 1 shift_data z.shifts each in
    record { sound = ((refl, id.sound, (refl, name.sound, (refl, shifts.sound, tt))), refl); deep = omega (arith, id.deep, name.deep, shifts.deep); reads = read_in (Zone z) (zone_data z) refl (rw (id.reads field.Id, name.reads field.Name, shifts.reads field.Shifts) refl) refl }

pub calendar_back : (c : CalendarRow) → IsCalendar c → IsReadBack (Calendar c)
unfolding kept_form calendar_table under
calendar_back c is =
    let id = id_kept c.id is.id in
    let name = text_kept c.name is.name in
    let zone = id_kept c.zone is.zone in
    record { sound = ((refl, id.sound, (refl, name.sound, (refl, zone.sound, tt))), refl); deep = omega (arith, id.deep, name.deep, zone.deep); reads = read_in (Calendar c) (calendar_data c) refl (rw (id.reads field.Id, name.reads field.Name, zone.reads field.Zone) refl) refl }

pub work_back : (w : WorkRow) → IsWork w → IsReadBack (Work w)
unfolding kept_form work_table week_form under
work_back w is =
    let calendar = id_kept w.calendar is.calendar in
    let capacity = whole_kept greatest_u16 w.capacity is.capacity (omega arith) in
    let from = whole_kept greatest_u16 w.from is.from (omega arith) in
    let to = whole_kept greatest_u16 w.to is.to (omega arith) in
    let weekday = whole_kept greatest_u8 w.weekday is.weekday (omega arith) in
    record { sound = ((refl, calendar.sound, (refl, capacity.sound, (refl, from.sound, (refl, to.sound, (refl, weekday.sound, tt))))), refl); deep = omega (arith, calendar.deep, capacity.deep, from.deep, to.deep, weekday.deep); reads = read_in (Work w) (work_data w) refl (rw (calendar.reads field.Calendar, capacity.reads field.Capacity, from.reads field.From, to.reads field.To, weekday.reads field.Weekday) refl) refl }

pub break_back : (b : BreakRow) → IsBreak b → IsReadBack (Break b)
unfolding kept_form break_table week_form under
break_back b is =
    let calendar = id_kept b.calendar is.calendar in
    let from = whole_kept greatest_u16 b.from is.from (omega arith) in
    let to = whole_kept greatest_u16 b.to is.to (omega arith) in
    let weekday = whole_kept greatest_u8 b.weekday is.weekday (omega arith) in
    record { sound = ((refl, calendar.sound, (refl, from.sound, (refl, to.sound, (refl, weekday.sound, tt)))), refl); deep = omega (arith, calendar.deep, from.deep, to.deep, weekday.deep); reads = read_in (Break b) (break_data b) refl (rw (calendar.reads field.Calendar, from.reads field.From, to.reads field.To, weekday.reads field.Weekday) refl) refl }

pub day_back : (d : DayRow) → IsDayRow d → IsDay d.day → IsReadBack (Day d)
unfolding kept_form day_table date_form under
day_back d is shown =
    let calendar = id_kept d.calendar is.calendar in
    let capacity = whole_kept greatest_u16 d.capacity is.capacity (omega arith) in
    let day = day_kept d.day shown in
    let from = whole_kept greatest_u16 d.from is.from (omega arith) in
    let to = whole_kept greatest_u16 d.to is.to (omega arith) in
    record { sound = ((refl, calendar.sound, (refl, capacity.sound, (refl, day.sound, (refl, from.sound, (refl, to.sound, tt))))), refl); deep = omega (arith, calendar.deep, capacity.deep, day.deep, from.deep, to.deep); reads = read_in (Day d) (day_row_data d) refl (rw (calendar.reads field.Calendar, capacity.reads field.Capacity, day.reads field.Day, from.reads field.From, to.reads field.To) refl) refl }

pub off_back : (o : OffRow) → IsOff o → IsReadBack (Off o)
unfolding kept_form off_table off_form under
off_back o is =
    let from = moment_kept o.from is.from in
    let resource = id_kept o.resource is.resource in
    let to = moment_kept o.to is.to in
    record { sound = ((refl, from.sound, (refl, resource.sound, (refl, to.sound, tt))), refl); deep = omega (arith, from.deep, resource.deep, to.deep); reads = read_in (Off o) (off_data o) refl (rw (from.reads field.From, resource.reads field.Resource, to.reads field.To) refl) refl }

pub unit_back : (n : NamedRow) → IsNamed n → IsReadBack (Unit n)
unfolding kept_form named_table under
unit_back n is =
    let id = u32_kept n.id is.id in
    let name = text_kept n.name is.name in
    record { sound = ((refl, id.sound, (refl, name.sound, tt)), refl); deep = omega (arith, id.deep, name.deep); reads = read_in (Unit n) (named_data n) refl (rw (id.reads field.Id, name.reads field.Name) refl) refl }

pub site_back : (n : NamedRow) → IsNamed n → IsReadBack (Site n)
unfolding kept_form named_table under
site_back n is =
    let id = u32_kept n.id is.id in
    let name = text_kept n.name is.name in
    record { sound = ((refl, id.sound, (refl, name.sound, tt)), refl); deep = omega (arith, id.deep, name.deep); reads = read_in (Site n) (named_data n) refl (rw (id.reads field.Id, name.reads field.Name) refl) refl }

pub role_back : (n : NamedRow) → IsNamed n → IsReadBack (Role n)
unfolding kept_form named_table under
role_back n is =
    let id = u32_kept n.id is.id in
    let name = text_kept n.name is.name in
    record { sound = ((refl, id.sound, (refl, name.sound, tt)), refl); deep = omega (arith, id.deep, name.deep); reads = read_in (Role n) (named_data n) refl (rw (id.reads field.Id, name.reads field.Name) refl) refl }

pub characteristic_back : (n : NamedRow) → IsNamed n → IsReadBack (Characteristic n)
unfolding kept_form named_table under
characteristic_back n is =
    let id = u32_kept n.id is.id in
    let name = text_kept n.name is.name in
    record { sound = ((refl, id.sound, (refl, name.sound, tt)), refl); deep = omega (arith, id.deep, name.deep); reads = read_in (Characteristic n) (named_data n) refl (rw (id.reads field.Id, name.reads field.Name) refl) refl }

pub territory_back : (n : NamedRow) → IsNamed n → IsReadBack (Territory n)
unfolding kept_form named_table under
territory_back n is =
    let id = u32_kept n.id is.id in
    let name = text_kept n.name is.name in
    record { sound = ((refl, id.sound, (refl, name.sound, tt)), refl); deep = omega (arith, id.deep, name.deep); reads = read_in (Territory n) (named_data n) refl (rw (id.reads field.Id, name.reads field.Name) refl) refl }

pub resource_back : (r : ResourceRow) → IsResource r → IsReadBack (Resource r)
unfolding kept_form resource_table nature_form place_form under
resource_back r is =
    let calendar = id_or_null_kept r.calendar is.calendar in
    let id = id_kept r.id is.id in
    let kind = kind_kept r.kind in
    let name = text_kept r.name is.name in
    let site = id_kept r.site is.site in
    let unit = id_kept r.unit is.unit in
    record { sound = ((refl, calendar.sound, (refl, id.sound, (refl, kind.sound, (refl, name.sound, (refl, site.sound, (refl, unit.sound, tt)))))), refl); deep = omega (arith, calendar.deep, id.deep, kind.deep, name.deep, site.deep, unit.deep); reads = read_in (Resource r) (resource_data r) refl (rw (calendar.reads field.Calendar, id.reads field.Id, kind.reads field.Kind, name.reads field.Name, site.reads field.Site, unit.reads field.Unit) refl) refl }

pub rated_back : (h : HasRow) → IsHas h → IsReadBack (HasCharacteristic h)
unfolding kept_form rated_table has_form under
rated_back h is =
    let rating = whole_kept greatest_u8 h.rating is.rating (omega arith) in
    let resource = id_kept h.resource is.resource in
    let what = u32_kept h.what is.what in
    record { sound = ((refl, rating.sound, (refl, resource.sound, (refl, what.sound, tt))), refl); deep = omega (arith, rating.deep, resource.deep, what.deep); reads = read_in (HasCharacteristic h) (rated_data h) refl (rw (rating.reads field.Rating, resource.reads field.Resource, what.reads field.What) refl) refl }

pub member_back : (x : MemberRow) → IsMembership x → IsReadBack (Member x)
unfolding kept_form member_table member_form under
member_back x is =
    let from = moment_kept x.from is.from in
    let group = id_kept x.group is.group in
    let member = id_kept x.member is.member in
    let to = moment_kept x.to is.to in
    record { sound = ((refl, from.sound, (refl, group.sound, (refl, member.sound, (refl, to.sound, tt)))), refl); deep = omega (arith, from.deep, group.deep, member.deep, to.deep); reads = read_in (Member x) (member_data x) refl (rw (from.reads field.From, group.reads field.Group, member.reads field.Member, to.reads field.To) refl) refl }

pub has_role_back : (h : HasRow) → IsHas h → h.rating ≡ 0 → IsReadBack (HasRole h)
unfolding kept_form has_table has_form under
has_role_back h is unrated =
    let resource = id_kept h.resource is.resource in
    let what = u32_kept h.what is.what in
    record { sound = ((refl, resource.sound, (refl, what.sound, tt)), refl); deep = omega (arith, resource.deep, what.deep); reads = read_in (HasRole h) (has_data h) refl (rw (resource.reads field.Resource, what.reads field.What) (ap (λ n. Ok (HasRole (record { resource = h.resource; what = h.what; rating = n }))) (sym unrated))) refl }

pub has_territory_back : (h : HasRow) → IsHas h → h.rating ≡ 0 → IsReadBack (HasTerritory h)
unfolding kept_form has_table has_form under
has_territory_back h is unrated =
    let resource = id_kept h.resource is.resource in
    let what = u32_kept h.what is.what in
    record { sound = ((refl, resource.sound, (refl, what.sound, tt)), refl); deep = omega (arith, resource.deep, what.deep); reads = read_in (HasTerritory h) (has_data h) refl (rw (resource.reads field.Resource, what.reads field.What) (ap (λ n. Ok (HasTerritory (record { resource = h.resource; what = h.what; rating = n }))) (sym unrated))) refl }
