use Rattle.std.proofs.Common.{◌++◌, ◌∷◌, [], List, Bool, IsTrue, take, ap, ◌∙◌, subst}
use Rattle.desk_base.specs.meaning.Picks.{pattern_of}
use Rattle.desk_base.specs.meaning.Trees.{tree_of}
use Rattle.desk_base.specs.search.Listing.{BeginsPattern}
use Rattle.desk_need.proofs.BadShapes.{pattern_of-more}
use Rattle.desk_need.proofs.trees.shape.begin_to.Goals as goal

pub returns : goal.returns
returns c =
    let bits = ap (λ b. pattern_of (take c.args.count c.args.picks.now) ++ b ∷ []) c.is_some-is_pick.ensures
    ∙ pattern_of-more c.args.picks.now c.args.count c.index-picks-count.result c.requires c.index-picks-count.is in
    subst (λ (b : List Bool). (IsTrue c.begin_with.result → BeginsPattern (tree_of c.args.nodes.now) b) × (BeginsPattern (tree_of c.args.nodes.now) b → IsTrue c.begin_with.result)) bits c.begin_with.ensures
