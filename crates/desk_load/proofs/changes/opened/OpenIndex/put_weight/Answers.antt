use Rattle.std.proofs.Common.{◌∙◌, ◌++◌, ◌∷◌, [], ap}
use Rattle.desk_load.specs.declared.changes.opened.Former.TheVariants.{Weighed}
use Rattle.desk_load.specs.Changed.{parts_of}
use Rattle.desk_load.proofs.TakenBack.{noted, weighed_back}
use Rattle.desk_load.proofs.changes.opened.OpenIndex.put_weight.Goals as goal

pub returns-clause-before : goal.returns-clause-before
returns-clause-before c = noted (parts_of c.args.self.now) _ c.args.self.now.formers.items _ (Weighed c.args.at c.replace-former.result) (c.push_reserved.ensures.items ∙ ap (λ l. l ++ Weighed c.args.at c.replace-former.result ∷ []) c.reserve.ensures.items) (weighed_back (parts_of c.args.self.now) c.args.at _ c.replace-former.result c.index_mut.result.now (c.replace-former.ensures.value ∙ c.index_mut.ensures.value))
