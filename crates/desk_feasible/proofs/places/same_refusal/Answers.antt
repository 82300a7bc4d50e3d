use Rattle.std.proofs.Common.{arith, sym, ◌∙◌}
use Rattle.desk_base.proofs.meaning.Shapes.{few_nodes_of}
use Rattle.desk_member.proofs.MemberRows.{keys_rise}
use Rattle.desk_feasible.proofs.places.same_refusal.Goals as goal

pub first_broken_node-requires-clause-rise : goal.first_broken_node-requires-clause-rise
first_broken_node-requires-clause-rise c = keys_rise c.args.tables.now c.requires.formed

pub first_broken_node-requires-clause-few : goal.first_broken_node-requires-clause-few
first_broken_node-requires-clause-few c = omega (arith, few_nodes_of c.args.tables.now c.args.group.now c.requires.formed c.requires.there)

pub overflow_cast-result : goal.overflow_cast-result
overflow_cast-result c = omega (arith, few_nodes_of c.args.tables.now c.args.group.now c.requires.formed c.requires.there, rw c.in-Some.is at c.first_broken_node.ensures.small)

pub returns-in-Some : goal.returns-in-Some
returns-in-Some c = (c.requires.served, sym (rw c.get.ensures.value at c.first_broken_node.ensures.value) ∙ c.in-Some.is)

pub room_refusal-requires-clause-same : goal.room_refusal-requires-clause-same
room_refusal-requires-clause-same c = sym (rw c.get.ensures.value at c.first_broken_node.ensures.value) ∙ c.in-None.is
