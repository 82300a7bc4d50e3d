-- What a book shows, and what each of them keeps.
use Rattle.std.specs.Prelude.{◌≡◌, List}
use Rattle.desk_base.specs.declared.rows.tables.Tables.{Tables}
use Rattle.desk_base.specs.declared.asked.acts.Entry.{Entry}
use Rattle.desk_base.specs.rules.Sound.{IsSound}
use Rattle.desk_base.specs.asked.Histories.{IsLegal, after_journal}

-- the tables at the opening, the tables now, and the changes that were accepted in between
pub record BookState : Type 0 where
  pub opened : Tables
  pub tables : Tables
  pub journal : List Entry

-- the tables are sound, the journal is legal over those at the opening, and leads from them to those that are now
pub record IsKept (opened tables : Tables) (journal : List Entry) : Type 0 where
  pub sound : IsSound tables
  pub legal : IsLegal opened journal
  pub after : tables ≡ after_journal opened journal
