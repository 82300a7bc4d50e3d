-- Which pages are answered, and what the text of a page tells of it.
use Rattle.std.specs.Prelude.{ℕ, ◌≤◌, All, Option, Some, None, MatchOption, ⊤}
use Rattle.desk_base.specs.rules.Limits.{revision_limit}
use Rattle.desk_base.specs.declared.search.results.Found.{Found}
use Rattle.desk_base.specs.declared.search.results.Position.{Position}
use Rattle.desk_base.specs.declared.search.results.Page.{Page}
use Rattle.desk_base.specs.declared.asked.answers.Outcome.{Outcome}
use Rattle.desk_base.specs.declared.asked.answers.Outcome.TheVariants.{Done}
use Rattle.desk_base.specs.declared.asked.answers.Reply.TheVariants.{Rows}
use Rattle.desk_base.specs.search.Positions.{found_of}
use Rattle.desk_time.specs.Limits.{IsMoment}
use Rattle.desk_json.specs.CursorReading.{IsPick, IsCursor}

-- a row starts at a moment of the horizon, and each pick is a resource or a leaf that is left out
pub record IsRow (row : Found) : Type 0 where
  pub start : IsMoment row.start
  pub picks : All IsPick row.picks

-- the position behind which the next page comes, if there is one, makes a cursor with the revision and the shown rows
abbrev pub IsNext : ℕ → Option ℕ → Option Position → Type 0
IsNext revision shown (Some position) = IsCursor (record { revision = revision; shown = shown; position = position })
IsNext revision shown None = ⊤

-- what is written of a page: rows that start in the horizon, and a place behind them that does, where there is one
pub record HasPlaces (page : Page) : Type 0 where
  pub rows : All IsRow page.rows
  pub next : MatchOption page.next ⊤ (λ position. IsRow (found_of position))

-- so it is of a page that answers a question; any other answer has no places
abbrev pub ShowsPlaces : Outcome → Type 0
ShowsPlaces (Done (Rows page)) = HasPlaces page
ShowsPlaces _ = ⊤

-- a page as it is answered over a revision
pub record IsAnswered (revision : ℕ) (page : Page) : Type 0 where
  pub in_range : revision ≤ revision_limit
  pub rows : All IsRow page.rows
  pub next : IsNext revision page.shown page.next

-- how many rows were shown, which the cursor of the next page alone tells
abbrev pub told_shown : Option Position → Option ℕ → Option ℕ
told_shown (Some position) shown = shown
told_shown None shown = None

-- a page as its text tells it
abbrev pub told : Page → Page
told page = record page { shown = told_shown page.next page.shown }
