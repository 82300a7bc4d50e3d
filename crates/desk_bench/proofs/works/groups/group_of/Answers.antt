use Rattle.desk_member.proofs.MemberRows.{keys_rise}
use Rattle.desk_bench.proofs.GroupsThere.{found_group}
use Rattle.desk_bench.proofs.works.groups.group_of.Goals as goal

pub group-requires : goal.group-requires
group-requires c = keys_rise c.args.tables.now c.requires

pub returns-in-Some : goal.returns-in-Some
returns-in-Some c = found_group c.args.tables.now c.in_ok-id.id c.in-Some.group.now c.in-Some.ensures
