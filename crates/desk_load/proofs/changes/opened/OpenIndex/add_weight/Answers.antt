use Rattle.std.proofs.Common.{◌∙◌, ◌++◌, ◌∷◌, [], List, ap}
use Rattle.desk_load.specs.declared.weights.Weight.{Weight}
use Rattle.desk_load.specs.declared.changes.opened.Former.TheVariants.{AddedWeight}
use Rattle.desk_load.specs.Changed.{parts_of, put_back}
use Rattle.desk_load.proofs.TakenBack.{noted, weight_added_back}
use Rattle.desk_load.proofs.changes.opened.OpenIndex.add_weight.Goals as goal

pub returns-clause-before : goal.returns-clause-before
returns-clause-before c =
    let before = parts_of c.args.self.now in
    noted before _ c.args.self.now.formers.items _ (AddedWeight c.args.at) (c.push_reserved.ensures.items ∙ ap (λ l. l ++ AddedWeight c.args.at ∷ []) c.reserve.ensures.items)
    (ap (λ (l : List Weight). put_back (record before { weights = l }) (AddedWeight c.args.at)) c.in-Ok.ensures.items ∙ weight_added_back before c.args.at c.args.weight c.requires)
