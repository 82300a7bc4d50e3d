use Rattle.std.proofs.Common.{◌≡◌, sym, ◌∙◌}
use Rattle.desk_base.proofs.meaning.Fewer.{Fits-others}
use Rattle.desk_core.proofs.GroupsThere.{found_group}
use Rattle.desk_member.proofs.MemberRows.{keys_rise}
use Rattle.tests_views.proofs.verdicts.ask_visit.Goals as goal

pub group-requires : goal.group-requires
group-requires g c = keys_rise c.tables-tables.result.now (c.sound_tables_are_well_formed.ensures c.tables-tables.result.now c.tables-tables.ensures.sound)

pub ask_rows-requires-clause-fits : goal.ask_rows-requires-clause-fits
ask_rows-requires-clause-fits g c = Fits-others c.tables-tables.result.now c.in-Some.group.now (c.standing_bookings_fit.ensures c.tables-tables.result.now c.tables-tables.ensures.sound)

pub ask_rows-requires-clause-there : goal.ask_rows-requires-clause-there
ask_rows-requires-clause-there g c = found_group c.tables-tables.result.now c.in_ok-id.id c.in-Some.group.now c.in-Some.ensures
