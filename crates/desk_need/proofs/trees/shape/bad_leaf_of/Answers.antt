use Rattle.std.proofs.Common.{rules, ◌+◌, length, take, arith, below_more}
use Rattle.desk_base.specs.meaning.Picks.{pattern_of}
use Rattle.desk_base.specs.meaning.Trees.{tree_of}
use Rattle.desk_base.specs.search.Listing.{BeginsPattern}
use Rattle.desk_need.proofs.BadShapes.{begun_is_few, short_is_bad, long_is_pattern, length-pattern_of}
use Rattle.desk_need.proofs.SomePatterns.{few_leaves}
use Rattle.desk_need.proofs.trees.shape.bad_leaf_of.Goals as goal

pub overflow_cast-result : goal.overflow_cast-result
overflow_cast-result c =
    let all = length-pattern_of c.args.picks.now in
    let few = begun_is_few c.args.nodes.now c.args.leaves c.requires (pattern_of c.args.picks.now) c.loop-count.count c.loop-count.invariant (omega (arith, all)) in
    omega (arith, few)

pub loop-count-preserved : goal.loop-count-preserved
loop-count-preserved c =
    below_more (λ k. BeginsPattern (tree_of c.args.nodes.now) (take (k + 1) (pattern_of c.args.picks.now))) c.loop-count.count c.loop-count.invariant (c.begin_to.ensures.0 (search rules))

pub overflow_cast-result-then-picks-leaves : goal.overflow_cast-result-then-picks-leaves
overflow_cast-result-then-picks-leaves c = omega (arith, few_leaves c.args.nodes.now c.args.leaves c.requires)

pub returns-then-picks-leaves : goal.returns-then-picks-leaves
returns-then-picks-leaves c =
    short_is_bad c.args.nodes.now c.args.leaves c.requires (pattern_of c.args.picks.now) (length c.args.picks.now) (length-pattern_of c.args.picks.now)
    (λ k l. c.loop-count.invariant k (omega (arith, l))) c.if-picks-leaves.true

pub returns-else-picks-leaves : goal.returns-else-picks-leaves
returns-else-picks-leaves c =
    long_is_pattern c.args.nodes.now c.args.leaves c.requires (pattern_of c.args.picks.now) (length c.args.picks.now) (length-pattern_of c.args.picks.now)
    (λ k l. c.loop-count.invariant k (omega (arith, l))) c.if-picks-leaves.false
