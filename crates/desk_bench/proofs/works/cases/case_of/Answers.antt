use Rattle.desk_feasible.proofs.Trees.{group_tree}
use Rattle.desk_member.proofs.MemberRows.{keys_rise}
use Rattle.desk_bench.proofs.works.cases.case_of.Goals as goal

pub build-requires-clause-rise : goal.build-requires-clause-rise
build-requires-clause-rise c = keys_rise c.args.tables.now c.requires.formed

pub build-requires-clause-tree : goal.build-requires-clause-tree
build-requires-clause-tree c = group_tree c.args.tables.now c.args.group.now c.requires.formed c.requires.there
