-- Targets: the path and the query of each, and the route of a path.
use Rattle.std.specs.Prelude.{◌≡◌, ◌≢◌, ℕ, ◌+◌, ◌==◌, Bool, false, List, [], ◌∷◌, ◌++◌, codes, take, drop, All, IsUtf8, Option, Some, None}
use Rattle.std.specs.List.{position_or_len}
use Rattle.matchit.specs.Rows.{RowsOf, param_token}
use Rattle.matchit.specs.Router.{RouteOf}
use Rattle.desk_route.specs.declared.routes.Route.{Route}
use Rattle.desk_route.specs.declared.routes.Route.TheVariants as route

-- ---- a target is cut at its first `?`

abbrev pub is_question_mark : ℕ → Bool
is_question_mark b = b == 63

-- the path: what stands before the first `?`, or the whole target
unfoldable pub path_of : List ℕ → List ℕ
path_of target = take (position_or_len is_question_mark target) target

-- the query: what stands behind it, or nothing
unfoldable pub query_of : List ℕ → List ℕ
query_of target = drop (position_or_len is_question_mark target + 1) target

-- ---- the route of a path

-- a part of a path: it is not empty and has no slash
pub record IsPart (part : List ℕ) : Type 0 where
  pub some : part ≢ []
  pub one : All (λ b. (b == 47) ≡ false) part

-- the path of the rows of a group, and that of the sheet of a resource, with the part that is to name it
abbrev pub rows_path : List ℕ → List ℕ
rows_path part = codes "/groups/" ++ part ++ codes "/rows"

abbrev pub sheet_path : List ℕ → List ℕ
sheet_path part = codes "/resources/" ++ part ++ codes "/sheet"

-- the path is one of the route
abbrev pub IsPathOf : Route → List ℕ → Type 0
IsPathOf route.Rows path = (part : List ℕ) × IsPart part × (path ≡ rows_path part)
IsPathOf route.Board path = path ≡ codes "/board"
IsPathOf route.Sheet path = (part : List ℕ) × IsPart part × (path ≡ sheet_path part)
IsPathOf route.Journal path = path ≡ codes "/journal"
IsPathOf route.Revision path = path ≡ codes "/revision"
IsPathOf route.Changes path = path ≡ codes "/changes"

-- the path has this route; one that is not UTF-8 has none. It is not percent-decoded
abbrev pub HasRoute : List ℕ → Option Route → Type 0
HasRoute path (Some route) = IsUtf8 path × IsPathOf route path
HasRoute path None = (route : Route) → IsUtf8 path → ¬ (IsPathOf route path)

-- ---- the same routes, as a router holds them

-- a route with no parameter
abbrev pub plain : List ℕ → Route → List ℕ × RouteOf Route
plain text value = (text, record { pattern = text; text = text; names = []; value = value })

-- a route with the parameter `id` between two texts, whose name stands there in the route's text
abbrev pub with_id : List ℕ → List ℕ → List ℕ → ℕ × ℕ → Route → List ℕ × RouteOf Route
with_id before after text name value = (
  before ++ param_token ∷ after,
  record { pattern = before ++ param_token ∷ after; text = text; names = name ∷ []; value = value },
)

abbrev pub six_rows : RowsOf (RouteOf Route)
six_rows =
    plain (codes "/board") route.Board
    ∷ plain (codes "/changes") route.Changes
    ∷ with_id (codes "/groups/") (codes "/rows") (codes "/groups/{id}/rows") (9, 11) route.Rows
    ∷ plain (codes "/journal") route.Journal
    ∷ with_id (codes "/resources/") (codes "/sheet") (codes "/resources/{id}/sheet") (12, 14) route.Sheet
    ∷ plain (codes "/revision") route.Revision
    ∷ []
