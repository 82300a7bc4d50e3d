use Rattle.std.proofs.Common.{◌∙◌, ◌++◌, ◌∷◌, [], List, ap}
use Rattle.desk_base.specs.declared.rows.resources.MemberRow.{MemberRow}
use Rattle.desk_load.specs.declared.changes.opened.Former.TheVariants.{Members}
use Rattle.desk_load.specs.Changed.{parts_of}
use Rattle.desk_load.proofs.TakenBack.{noted}
use Rattle.desk_load.proofs.changes.opened.OpenIndex.put_members.Goals as goal

pub returns-clause-before : goal.returns-clause-before
returns-clause-before c = noted (parts_of c.args.self.now) _ c.args.self.now.formers.items _ (Members c.replace-former.result) (c.push_reserved.ensures.items ∙ ap (λ l. l ++ Members c.replace-former.result ∷ []) c.reserve.ensures.items) (ap (λ (m : List MemberRow). record (parts_of c.args.self.now) { members = m }) c.replace-former.ensures.value)
