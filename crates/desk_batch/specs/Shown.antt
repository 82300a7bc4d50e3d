-- The pages of a search among the turns of a conversation.
use Rattle.std.specs.Prelude.{◌≡◌, ℕ, ◌⊎◌, Bool, false, List, [], ◌∷◌, All, Option, Some, None, ⊤}
use Rattle.desk_base.specs.declared.rows.groups.GroupRow.{GroupRow}
use Rattle.desk_base.specs.declared.search.results.Cursor.{Cursor}
use Rattle.desk_base.specs.declared.search.results.Found.{Found}
use Rattle.desk_base.specs.declared.search.results.Options.{Options}
use Rattle.desk_base.specs.declared.search.results.Page.{Page}
use Rattle.desk_base.specs.declared.asked.answers.Answer.{Answer}
use Rattle.desk_base.specs.declared.asked.answers.Command.{Command as Asked}
use Rattle.desk_base.specs.declared.asked.answers.Command.TheVariants.{Ask}
use Rattle.desk_base.specs.declared.asked.answers.Query.TheVariants.{Rows as RowsOf}
use Rattle.desk_base.specs.declared.asked.answers.Outcome.TheVariants.{Done}
use Rattle.desk_base.specs.declared.asked.answers.Reply.TheVariants.{Rows}
use Rattle.desk_base.specs.asked.Groups.{group_of}
use Rattle.desk_base.specs.declared.rows.tables.Tables.{Tables}
use Rattle.desk_base.specs.search.Listing.{IsListing}
use Rattle.desk_base.specs.search.Page.{ResumePoint, beginning, next_point, PassesOne, Joins}
use Rattle.desk_base.specs.asked.Steps.{point_of}
use Rattle.desk_core.specs.Books.{BookState}
use Rattle.desk_wire.specs.declared.rules.Request.{Request}
use Rattle.desk_wire.specs.declared.responses.Response.{Response}
use Rattle.desk_route.specs.declared.requests.Routed.TheVariants.{Command, Refused}
use Rattle.desk_route.specs.declared.refusals.WebRefusal.{WebRefusal}
use Rattle.desk_json.specs.AnsweredPages.{ShowsPlaces, IsAnswered}
use Rattle.desk_route.specs.Requesting.{Reads}
use Rattle.desk_route.specs.Replies.{answer_response, refusal_response}
use Rattle.desk_talk.specs.Sessions.{Exchange}
use Rattle.desk_batch.specs.Turns.{OwnTurn}

-- a command that had a turn, and its answer
pub record Taken : Type 0 where
  pub command : Asked
  pub answer : Answer

-- a request, its turn if it had one, the response, and the book after it
pub record Told : Type 0 where
  pub request : Request
  pub turn : Option Taken
  pub response : Response
  pub after : BookState

-- what is seen of it on the connection
abbrev pub exchange_of : Told → Exchange
exchange_of x = record { request = x.request; response = x.response }

-- a request that is refused has no turn, and one that is a command has this turn, whose answer is the response, with places that could be written
abbrev pub IsTold : BookState → Option Taken → Request → Response → BookState → Type 0
IsTold s None q r t = (why : WebRefusal) × Reads q (Refused why) × (r ≡ refusal_response q why) × (t ≡ s)
IsTold s (Some x) q r t = Reads q (Command x.command) × OwnTurn s x.command x.answer t × (r ≡ answer_response q x.answer) × ShowsPlaces x.answer.outcome

-- each of them is told so, from one book to the next
abbrev pub AreTold : BookState → List Told → Type 0
AreTold s [] = ⊤
AreTold s (x ∷ xs) = IsTold s x.turn x.request x.response x.after × AreTold x.after xs

-- the book stood so, before them or after one of them
abbrev pub HasStood : BookState → List Told → BookState → Type 0
HasStood s [] b = b ≡ s
HasStood s (x ∷ xs) b = (b ≡ s) ⊎ HasStood x.after xs b

-- a search: the group, within which starts, and how many rows of each start it shows
pub record Search : Type 0 where
  pub group : ℕ
  pub options : Options

-- the turn was asked for a page of the search, from a point on and with some limit, and answered this one over this revision
pub record ShowsPage (search : Search) (revision : ℕ) (point : ResumePoint) (page : Page) (x : Taken) : Type 0 where
  pub cursor : Option Cursor
  pub latest : Bool
  pub limit : ℕ
  pub asked : x.command ≡ Ask (RowsOf search.group search.options cursor latest limit)
  pub from_cursor : point_of cursor ≡ point
  pub answered : x.answer.outcome ≡ Done (Rows page)
  pub over : x.answer.revision ≡ revision

-- the request had a turn that shows this page
abbrev pub ShowsTo : Search → ℕ → ResumePoint → Page → Option Taken → Type 0
ShowsTo search revision point page None = ⊥
ShowsTo search revision point page (Some x) = ShowsPage search revision point page x

-- among them are these pages of the search over this revision, in this order, the first from a point on and each other with the cursor of the one before
abbrev pub ShowPages : Search → ℕ → ResumePoint → List Told → List Page → Type 0
ShowPages search revision point xs [] = ⊤
ShowPages search revision point [] (page ∷ pages) = ⊥
ShowPages search revision point (x ∷ xs) (page ∷ pages) =
    (ShowsTo search revision point page x.turn × ShowPages search revision (next_point page) xs pages) ⊎ ShowPages search revision point xs (page ∷ pages)

-- each page that is not at its end has passed a position that was due from the point where it began, and goes on after it
abbrev pub ArePassing : Tables → GroupRow → Options → ResumePoint → List Page → Type 0
ArePassing t g o point [] = ⊤
ArePassing t g o point (page ∷ pages) = (page.end ≡ false → PassesOne t g o point page) × ArePassing t g o (next_point page) pages

-- whatever pages of a search they show over the revision of a book that has stood, from the beginning of the search on, there is a listing over the
-- tables of that book whose first rows they are together, and all of them where the last page is at the end; each page goes on; and each is in the
-- ranges of pages that are answered, so that its text is that of no other page
abbrev pub PagesJoin : BookState → List Told → Type 0
PagesJoin s xs =
    (b : BookState) (search : Search) (g : GroupRow) (page : Page) (pages : List Page)
    → HasStood s xs b → group_of b.tables search.group ≡ Some g → ShowPages search b.tables.revision beginning xs (page ∷ pages)
    → ArePassing b.tables g search.options beginning (page ∷ pages)
    × All (IsAnswered b.tables.revision) (page ∷ pages)
    × ((listing : List Found) × IsListing b.tables g search.options listing × Joins b.tables g search.options (page ∷ pages) listing)
