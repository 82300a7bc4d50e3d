use Rattle.std.proofs.Common.{◌<◌, length, arith}
use Rattle.desk_need.proofs.SomePatterns.{few_nodes}
use Rattle.desk_need.proofs.cases.known.Case.same_ok.Goals as goal

pub first_broken_node-requires-clause-few : goal.first_broken_node-requires-clause-few
first_broken_node-requires-clause-few c = omega (arith, few_nodes c.self.inside.group.now.nodes (length c.self.inside.group.now.leaves) c.self.invariant.sound)

pub overflow_cast-result : goal.overflow_cast-result
overflow_cast-result c =
    let below : c.in-Some.node < length c.self.inside.group.now.nodes = c.in-Some.ensures.small in
    omega (arith, below, few_nodes c.self.inside.group.now.nodes (length c.self.inside.group.now.leaves) c.self.invariant.sound)
