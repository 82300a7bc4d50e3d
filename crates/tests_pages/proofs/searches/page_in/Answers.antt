use Rattle.std.proofs.Common.{sym}
use Rattle.desk_base.proofs.lists.Members.{contains_from_in}
use Rattle.desk_base.proofs.booked.FeasibleBookings.{group_found}
use Rattle.desk_member.proofs.MemberRows.{keys_rise}
use Rattle.tests_pages.proofs.searches.page_in.Goals as goal

pub group-requires : goal.group-requires
group-requires c = keys_rise c.args.tables.now c.requires.well_formed

pub searched-requires-clause-there : goal.searched-requires-clause-there
searched-requires-clause-there c =
    let found = group_found c.args.tables.now c.args.group c.in-Some.row.now (sym c.in-Some.ensures) in
    contains_from_in c.args.tables.now.groups c.in-Some.row.now found.0
