-- The turns of a program that has its book to itself.
use Rattle.std.specs.Prelude.{◌≡◌, []}
use Rattle.desk_base.specs.declared.rows.tables.Tables.{Tables}
use Rattle.desk_base.specs.declared.asked.answers.Answer.{Answer}
use Rattle.desk_base.specs.declared.asked.answers.Command.{Command}
use Rattle.desk_base.specs.asked.Steps.{IsTurn}
use Rattle.desk_core.specs.Books.{BookState, IsKept}

-- a book over these tables, as it is opened
abbrev pub opened_over : Tables → BookState
opened_over t = record { opened = t; tables = t; journal = [] }

-- a turn is a step of the one-thread scheduler, on the connection of number 0; the answer shows the revision after it, and the book keeps what every book keeps
pub record OwnTurn (s : BookState) (command : Command) (a : Answer) (t : BookState) : Type 0 where
  pub step : IsTurn s.tables s.journal 0 command a.outcome t.tables t.journal
  pub revision : a.revision ≡ t.tables.revision
  pub opened : t.opened ≡ s.opened
  pub kept : IsKept t.opened t.tables t.journal

-- the program always gets a turn
abbrev pub NeverSpent : BookState → BookState → Type 0
NeverSpent s t = ⊥
