-- A row of any table is read again as it was written.
use Rattle.std.proofs.Common.{◌≡◌, Ok}
use Rattle.std.proofs.lemmas.List.Elements.{All-weaker}
use Rattle.desk_base.specs.declared.rows.tables.AnyRow.{AnyRow}
use Rattle.desk_base.specs.declared.rows.tables.AnyRow.TheVariants.{Zone, Calendar, Work, Break, Day, Off, Unit, Site, Role, Characteristic, Territory, Resource, HasRole, HasCharacteristic, HasTerritory, Member, Group, Booking, Caller}
use Rattle.desk_base.specs.rows.Rows.{key_of}
use Rattle.desk_json.specs.Lists.{shift_in}
use Rattle.desk_kept.specs.Values.{shift_data}
use Rattle.desk_kept.specs.Kept.{row_data, row_text, row_of_text}
use Rattle.desk_kept.specs.Rules.{KeepsRules}
use Rattle.desk_kept.specs.Typed.{IsTyped}
use Rattle.desk_kept.proofs.ReadBack.{IsSound}
use Rattle.desk_kept.proofs.KeptValues.{IsKept, shift_kept}
use Rattle.desk_kept.proofs.ReadRows.{IsReadBack, back}
use Rattle.desk_kept.proofs.RuleLaws.{IsZoneShift, zone_shifts, day_shown, role_unrated, territory_unrated}
use Rattle.desk_kept.proofs.RowLaws.{zone_back, calendar_back, work_back, break_back, day_back, off_back, unit_back, site_back, role_back, characteristic_back, territory_back, resource_back, has_role_back, rated_back, has_territory_back, member_back}
use Rattle.desk_kept.proofs.BookingLaws.{booking_back, caller_back}
use Rattle.desk_kept.proofs.GroupLaws.{group_back}

pub each_back : (row : AnyRow) → IsTyped row → KeepsRules row → IsReadBack row
each_back (Zone x) is keeps = zone_back x is (All-weaker IsZoneShift (λ s. IsKept shift_in 1 (shift_data s) s) (λ s h. shift_kept s h.moment h.ahead) x.shifts (zone_shifts x keeps))
each_back (Calendar x) is keeps = calendar_back x is
each_back (Work x) is keeps = work_back x is
each_back (Break x) is keeps = break_back x is
each_back (Day x) is keeps = day_back x is (day_shown x keeps)
each_back (Off x) is keeps = off_back x is
each_back (Unit x) is keeps = unit_back x is
each_back (Site x) is keeps = site_back x is
each_back (Role x) is keeps = role_back x is
each_back (Characteristic x) is keeps = characteristic_back x is
each_back (Territory x) is keeps = territory_back x is
each_back (Resource x) is keeps = resource_back x is
each_back (HasRole x) is keeps = has_role_back x is (role_unrated x keeps)
each_back (HasCharacteristic x) is keeps = rated_back x is
each_back (HasTerritory x) is keeps = has_territory_back x is (territory_unrated x keeps)
each_back (Member x) is keeps = member_back x is
each_back (Group x) is keeps = group_back x is keeps
each_back (Booking x) is keeps = booking_back x is
each_back (Caller x) is keeps = caller_back x is

pub rows_back : (row : AnyRow) → IsTyped row → KeepsRules row → row_of_text (key_of row) (row_text row) ≡ Ok row
rows_back row is keeps = back row (each_back row is keeps)

pub data_sound : (row : AnyRow) → IsTyped row → KeepsRules row → IsSound (row_data row)
data_sound row is keeps = (each_back row is keeps).sound
