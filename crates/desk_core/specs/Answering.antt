-- Answers to questions, or want of memory.
use Rattle.std.specs.Prelude.{◌≡◌, ◌⊎◌, ℕ, Bool, List, Option, ⊤}
use Rattle.std.specs.Option.{option_or}
use Rattle.desk_base.specs.declared.rows.tables.Tables.{Tables}
use Rattle.desk_base.specs.declared.rows.groups.GroupRow.{GroupRow}
use Rattle.desk_base.specs.declared.search.results.Options.{Options}
use Rattle.desk_base.specs.declared.search.results.Cursor.{Cursor}
use Rattle.desk_base.specs.declared.asked.acts.Entry.{Entry}
use Rattle.desk_base.specs.declared.asked.refusals.Refusal.{Refusal}
use Rattle.desk_base.specs.declared.asked.answers.Query.{Query}
use Rattle.desk_base.specs.declared.asked.answers.Outcome.{Outcome}
use Rattle.desk_base.specs.declared.asked.answers.Outcome.TheVariants.{Done, NoMemory}
use Rattle.desk_base.specs.declared.asked.answers.Reply.TheVariants.{Rows, Journal}
use Rattle.desk_base.specs.search.Page.{ResumePoint, IsPage}
use Rattle.desk_base.specs.asked.Summaries.{summaries_from}
use Rattle.desk_base.specs.asked.Steps.{refused_limit, refused_per, refused_cursor, IsAnswer}

-- why a page of a group that is there is refused
abbrev pub refused_known : Tables → Options → Option Cursor → Bool → ℕ → Option Refusal
refused_known t options after latest limit = option_or (option_or (refused_limit limit) (refused_per options.per)) (refused_cursor t.revision after latest)

-- the page of the search, or want of memory
abbrev pub IsPageOrNone : Tables → GroupRow → Options → ResumePoint → ℕ → Outcome → Type 0
IsPageOrNone t g options point limit (Done (Rows page)) = IsPage t g options point limit page
IsPageOrNone t g options point limit NoMemory = ⊤
IsPageOrNone t g options point limit _ = ⊥

-- the entries of the journal above a revision, or want of memory
abbrev pub IsSummariesOrNone : List Entry → ℕ → Outcome → Type 0
IsSummariesOrNone journal from out = (out ≡ Done (Journal (summaries_from journal from))) ⊎ (out ≡ NoMemory)

-- the answer to the question, or want of memory
abbrev pub IsAnswerOrNone : Tables → List Entry → Query → Outcome → Type 0
IsAnswerOrNone t journal q out = IsAnswer t journal q out ⊎ (out ≡ NoMemory)
