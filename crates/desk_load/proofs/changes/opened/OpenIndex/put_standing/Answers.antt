use Rattle.std.proofs.Common.{◌∙◌, ◌++◌, ◌∷◌, [], ap}
use Rattle.desk_load.specs.declared.changes.opened.Former.TheVariants.{Standing}
use Rattle.desk_load.specs.Changed.{parts_of}
use Rattle.desk_load.proofs.TakenBack.{noted, standing_back}
use Rattle.desk_load.proofs.changes.opened.OpenIndex.put_standing.Goals as goal

pub returns-clause-before : goal.returns-clause-before
returns-clause-before c = noted (parts_of c.args.self.now) _ c.args.self.now.formers.items _ (Standing c.args.at c.replace-former.result) (c.push_reserved.ensures.items ∙ ap (λ l. l ++ Standing c.args.at c.replace-former.result ∷ []) c.reserve.ensures.items) (standing_back (parts_of c.args.self.now) c.args.at _ c.replace-former.result c.index_mut.result.now (c.replace-former.ensures.value ∙ c.index_mut.ensures.value))
