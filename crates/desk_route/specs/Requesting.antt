-- What a request is read as: a command, or the first rule of the interface that it breaks.
use Rattle.std.specs.Prelude.{◌≡◌, ℕ, Bool, ◌||◌, List, [], codes, bytes_eq, unwrap_or, Option, Some, None, Result, Ok, Err, MatchOption, MatchResult}
use Rattle.desk_base.specs.declared.asked.rules.Field.{Field}
use Rattle.desk_base.specs.declared.asked.answers.Command.{Command as Asking}
use Rattle.desk_base.specs.declared.asked.answers.Command.TheVariants.{Ask}
use Rattle.desk_base.specs.declared.asked.answers.Query.{Query}
use Rattle.desk_base.specs.declared.asked.answers.Query.TheVariants.{Rows, Revision, Journal}
use Rattle.desk_wire.specs.declared.rules.Request.{Request}
use Rattle.desk_wire.specs.declared.responses.Allow.{Allow}
use Rattle.desk_wire.specs.declared.responses.Allow.TheVariants.{Get, Post}
use Rattle.desk_json.specs.Decimals.{ReadsId}
use Rattle.desk_json.specs.Bodies.{parsed, change_in}
use Rattle.desk_json.specs.Faults.{◌>>=◌}
use Rattle.desk_json.specs.declared.faults.BodyRule.{BodyRule}
use Rattle.desk_json.specs.declared.faults.BodyError.TheVariants.{Bad}
use Rattle.desk_route.specs.declared.refusals.Parameter.TheVariants.{Id}
use Rattle.desk_route.specs.declared.refusals.WebRefusal.{WebRefusal}
use Rattle.desk_route.specs.declared.refusals.WebRefusal.TheVariants.{NoRoute, WrongMethod, BadParameter, BadBody, NotBuilt}
use Rattle.desk_route.specs.declared.requests.Routed.{Routed}
use Rattle.desk_route.specs.declared.requests.Routed.TheVariants.{Command, Refused}
use Rattle.desk_route.specs.declared.routes.Route.{Route}
use Rattle.desk_route.specs.declared.routes.Route.TheVariants as route
use Rattle.desk_route.specs.declared.parameters.Form.{Form}
use Rattle.desk_route.specs.declared.parameters.Asked.{Asked}
use Rattle.desk_route.specs.Routes.{path_of, query_of, rows_path, HasRoute}
use Rattle.desk_route.specs.Parameters.{rows_forms, journal_forms}
use Rattle.desk_route.specs.Queries.{IfSo, ReadsQuery}

-- ---- methods

-- a HEAD asks for what a GET asks for, and its response has no body
abbrev pub is_head : List ℕ → Bool
is_head method = bytes_eq method (codes "HEAD")

-- whether a route that has this method serves that of a request
unfoldable pub serves : Allow → List ℕ → Bool
serves Get method = bytes_eq method (codes "GET") || is_head method
serves Post method = bytes_eq method (codes "POST")

-- ---- what follows the query

-- what is read of a query, and then the rest; or the query's refusal
abbrev pub AfterQuery : List Form → List ℕ → (Asked → Result Asking WebRefusal → Type 0) → Result Asking WebRefusal → Type 0
AfterQuery forms query Rest r = (read : Result Asked WebRefusal) × ReadsQuery forms query read × MatchResult read (λ asked. Rest asked r) (λ why. r ≡ Err why)

-- the rows of a page where the request does not say
abbrev pub default_limit : ℕ
default_limit = 50

-- the question for a page of a group's rows
abbrev pub rows_of : ℕ → Asked → Query
rows_of group asked = Rows group (record { from = asked.from; to = asked.to; per = asked.per }) asked.after asked.latest (unwrap_or asked.limit default_limit)

-- the group that a part of a path names, by its number, and then the query
abbrev pub ReadsGroup : List ℕ → Option ℕ → Result Asking WebRefusal → Type 0
ReadsGroup query None r = r ≡ Err (BadParameter Id)
ReadsGroup query (Some group) r = AfterQuery rows_forms query (λ asked answer. answer ≡ Ok (Ask (rows_of group asked))) r

-- the rows of a group
abbrev pub ReadsRows : List ℕ → List ℕ → Result Asking WebRefusal → Type 0
ReadsRows path query r = (part : List ℕ) × (path ≡ rows_path part) × ((group : Option ℕ) × ReadsId part group × ReadsGroup query group r)

-- the entries of the journal above a revision, above 0 where the request does not say
abbrev pub ReadsJournal : List ℕ → Result Asking WebRefusal → Type 0
ReadsJournal query r = AfterQuery journal_forms query (λ asked answer. answer ≡ Ok (Ask (Journal (unwrap_or asked.above 0)))) r

-- the revision: it has no parameter
abbrev pub ReadsRevision : List ℕ → Result Asking WebRefusal → Type 0
ReadsRevision query r = AfterQuery [] query (λ asked answer. answer ≡ Ok (Ask Revision)) r

-- the change that a body asks for, or the first fault of the body
abbrev pub ReadsChange : List ℕ → Result Asking WebRefusal → Type 0
ReadsChange body (Ok command) = (parsed body >>= change_in) ≡ Ok command
ReadsChange body (Err why) = (rule : BodyRule) × (field : Field) × (why ≡ BadBody rule field) × ((parsed body >>= change_in) ≡ Err (Bad rule field))

-- a change that is posted: no parameter, and then the body
abbrev pub ReadsPosted : List ℕ → List ℕ → Result Asking WebRefusal → Type 0
ReadsPosted query body r = AfterQuery [] query (λ asked. ReadsChange body) r

-- ---- routes

-- the method of a route; the board and the sheet are not built yet
abbrev pub method_of : Route → Option Allow
method_of route.Rows = Some Get
method_of route.Journal = Some Get
method_of route.Revision = Some Get
method_of route.Changes = Some Post
method_of route.Board = None
method_of route.Sheet = None

-- what is read at a route that serves the method
abbrev pub ReadsServed : Route → List ℕ → List ℕ → List ℕ → Result Asking WebRefusal → Type 0
ReadsServed route.Rows path query body r = ReadsRows path query r
ReadsServed route.Journal path query body r = ReadsJournal query r
ReadsServed route.Revision path query body r = ReadsRevision query r
ReadsServed route.Changes path query body r = ReadsPosted query body r
ReadsServed route.Board path query body r = r ≡ Err NotBuilt
ReadsServed route.Sheet path query body r = r ≡ Err NotBuilt

-- what is read at a route: one that is not built is refused whatever the method is, and another method than its own is refused
abbrev pub ReadsBy : Option Allow → Route → Request → Result Asking WebRefusal → Type 0
ReadsBy None route q r = r ≡ Err NotBuilt
ReadsBy (Some allow) route q r = IfSo (serves allow q.method) (ReadsServed route (path_of q.target) (query_of q.target) q.body r) (r ≡ Err (WrongMethod allow))

abbrev pub ReadsAt : Route → Request → Result Asking WebRefusal → Type 0
ReadsAt route q r = ReadsBy (method_of route) route q r

-- ---- requests

-- what a request asks for, or the first rule that it breaks: its path has no route; its route has another method; the number in its path; the first
-- pair of its query that breaks a rule; and its body
pub record ReadsAs (q : Request) (r : Result Asking WebRefusal) : Type 0 where
  pub route : Option Route
  pub has_route : HasRoute (path_of q.target) route
  pub there : MatchOption route (r ≡ Err NoRoute) (λ found. ReadsAt found q r)

-- a request is read as a command, or is refused
abbrev pub Reads : Request → Routed → Type 0
Reads q (Command command) = ReadsAs q (Ok command)
Reads q (Refused why) = ReadsAs q (Err why)
