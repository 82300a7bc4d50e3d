use Rattle.desk_base.specs.declared.rows.tables.Table.TheVariants.{Zone, Calendar, Work, Break, Day, Off, Unit, Site, Role, Characteristic, Territory, Resource, HasRole, HasCharacteristic, HasTerritory, Member}
use Rattle.serde_json.specs.View.{view}
use Rattle.desk_json.proofs.TableRows.{row_of_same, same_row}
use Rattle.desk_json.proofs.tables.read_row.Goals as goal

pub returns-in-Zone : goal.returns-in-Zone
returns-in-Zone c = row_of_same c.args.table Zone (view c.args.body.now) _ c.in-Zone.is c.read_zone.ensures

pub returns-in-Calendar : goal.returns-in-Calendar
returns-in-Calendar c = row_of_same c.args.table Calendar (view c.args.body.now) _ c.in-Calendar.is c.read_calendar.ensures

pub returns-in-Work : goal.returns-in-Work
returns-in-Work c = same_row c.args.table Work (view c.args.body.now) _ c.in-Work.is c.read_work.ensures

pub returns-in-Break : goal.returns-in-Break
returns-in-Break c = same_row c.args.table Break (view c.args.body.now) _ c.in-Break.is c.read_break.ensures

pub returns-in-Day : goal.returns-in-Day
returns-in-Day c = same_row c.args.table Day (view c.args.body.now) _ c.in-Day.is c.read_day.ensures

pub returns-in-Off : goal.returns-in-Off
returns-in-Off c = same_row c.args.table Off (view c.args.body.now) _ c.in-Off.is c.read_off.ensures

pub returns-in-Unit : goal.returns-in-Unit
returns-in-Unit c = row_of_same c.args.table Unit (view c.args.body.now) _ c.in-Unit.is c.read_named.ensures

pub returns-in-Site : goal.returns-in-Site
returns-in-Site c = row_of_same c.args.table Site (view c.args.body.now) _ c.in-Site.is c.read_named-in-Site.ensures

pub returns-in-Role : goal.returns-in-Role
returns-in-Role c = row_of_same c.args.table Role (view c.args.body.now) _ c.in-Role.is c.read_named-in-Role.ensures

pub returns-in-Characteristic : goal.returns-in-Characteristic
returns-in-Characteristic c = row_of_same c.args.table Characteristic (view c.args.body.now) _ c.in-Characteristic.is c.read_named-in-Characteristic.ensures

pub returns-in-Territory : goal.returns-in-Territory
returns-in-Territory c = row_of_same c.args.table Territory (view c.args.body.now) _ c.in-Territory.is c.read_named-in-Territory.ensures

pub returns-in-Resource : goal.returns-in-Resource
returns-in-Resource c = row_of_same c.args.table Resource (view c.args.body.now) _ c.in-Resource.is c.read_resource.ensures

pub returns-in-HasRole : goal.returns-in-HasRole
returns-in-HasRole c = same_row c.args.table HasRole (view c.args.body.now) _ c.in-HasRole.is c.read_has.ensures

pub returns-in-HasCharacteristic : goal.returns-in-HasCharacteristic
returns-in-HasCharacteristic c = same_row c.args.table HasCharacteristic (view c.args.body.now) _ c.in-HasCharacteristic.is c.read_rated.ensures

pub returns-in-HasTerritory : goal.returns-in-HasTerritory
returns-in-HasTerritory c = same_row c.args.table HasTerritory (view c.args.body.now) _ c.in-HasTerritory.is c.read_has-in-HasTerritory.ensures

pub returns-in-Member : goal.returns-in-Member
returns-in-Member c = same_row c.args.table Member (view c.args.body.now) _ c.in-Member.is c.read_member.ensures
