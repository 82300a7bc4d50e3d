use Rattle.desk_need.specs.Bits.{bits_of}
use Rattle.desk_need.proofs.Judged.{judged_under}
use Rattle.desk_need.proofs.trees.judging.+judge.Goals as goal

pub returns-then-depth-node-clause-judges : goal.returns-then-depth-node-clause-judges
returns-then-depth-node-clause-judges t c =
    let below = c.judge-below in
    let first = c.of_kind-first in
    let beside = c.judge-beside in
    judged_under c.args.depth c.args.nodes.now _ (bits_of c.args.bits.now)
    (bits_of below.result.bits) below.result.all below.result.one below.result.none below.result.nodes.now c.in-len1-up.len_at_least below.ensures.judges
    first.result.begins first.result.none (bits_of first.result.bits) first.ensures.begins first.ensures.none first.ensures.bits
    beside.result.all beside.result.one beside.result.none beside.result.nodes.now (bits_of beside.result.bits) beside.ensures.judges
    c.joined.result.all c.joined.result.one c.joined.result.none c.joined.result.nodes.now (bits_of c.joined.result.bits)
    c.if-depth-node.true c.joined.ensures.all c.joined.ensures.one c.joined.ensures.none c.joined.ensures.nodes c.joined.ensures.bits
