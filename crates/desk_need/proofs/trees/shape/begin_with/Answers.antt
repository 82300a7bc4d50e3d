use Rattle.std.proofs.Common.{◌++◌, ◌∷◌, [], sym, ◌∙◌}
use Rattle.desk_base.specs.meaning.Picks.{pattern_of}
use Rattle.desk_need.proofs.Begins.{begins_decides}
use Rattle.desk_need.proofs.trees.shape.begin_with.Goals as goal

pub returns : goal.returns
returns c =
    let told = begins_decides c.args.nodes.now (c.args.chosen.now ++ (pattern_of c.args.picks.now ++ c.args.next ∷ [])) in
    (λ e. told.0 (sym c.begin.ensures ∙ e), λ b. c.begin.ensures ∙ told.1 b)
