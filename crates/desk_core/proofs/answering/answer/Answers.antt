use Rattle.std.proofs.Common.{sym, subst}
use Rattle.desk_base.specs.declared.asked.answers.Query.{Query}
use Rattle.desk_core.specs.Answering.{IsAnswerOrNone}
use Rattle.desk_core.proofs.answering.answer.Goals as goal

pub returns-in-Rows : goal.returns-in-Rows
returns-in-Rows c = subst (λ (q : Query). IsAnswerOrNone c.args.view.now.tables c.args.journal.now q c.rows.result) (sym c.in-Rows.is) (c.rows.ensures c.args.journal.now)
