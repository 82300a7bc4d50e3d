use Rattle.std.proofs.Common.{List, sym, subst}
use Rattle.desk_base.specs.declared.asked.acts.Entry.{Entry}
use Rattle.desk_core.specs.Journaled.{AreNumbered}
use Rattle.desk_core.proofs.Revisions.{legal_numbered}
use Rattle.desk_core.proofs.book.Book.told.Goals as goal

pub answer-requires-clause-numbered : goal.answer-requires-clause-numbered
answer-requires-clause-numbered c =
    subst (λ (es : List Entry). AreNumbered c.self.inside.view.tables.revision es) (sym c.as_slice.ensures.value)
    (legal_numbered c.self.inside.opened.value c.self.inside.view.tables c.self.inside.journal.items c.self.invariant.0.after c.self.invariant.0.legal)
