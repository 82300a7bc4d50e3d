-- Pages of a search.
use Rattle.std.specs.Prelude.{ℕ, zero, suc, ◌+◌, ◌-◌, ◌≤◌, ◌<◌, Bool, false, true, ◌==◌, nat_lt, min, List, [], ◌∷◌, ◌++◌, take, filter, flat_map, length, Option, Some, None, unwrap_or, MatchOption, ◌≡◌, ◌⊎◌, Contains, if◌then◌else◌, ⊤}
use Rattle.std.specs.List.{last_or}
use Rattle.std.specs.declared.cmp.Ordering.TheVariants.{Less}
use Rattle.desk_base.specs.rows.Types.{Tables, GroupRow, Found, Position, Options, Page}
use Rattle.desk_base.specs.rules.Limits.{passed_limit, page_limit}
use Rattle.desk_base.specs.search.Order.{position_cmp, Enumerates}
use Rattle.desk_base.specs.search.Positions.{is_full, found_of, rows_among}
use Rattle.desk_base.specs.search.Listing.{IsLive, rows_before}

-- from where a search goes on: after a position, if one is given, of whose start so many rows were shown before
pub record ResumePoint : Type 0 where
  pub after : Option Position
  pub shown : ℕ

-- where a search begins
abbrev pub beginning : ResumePoint
beginning = record { after = None; shown = 0 }

-- it comes after a position, if one is given
abbrev pub IsAfter : Option Position → Position → Type 0
IsAfter None p = ⊤
IsAfter (Some a) p = position_cmp a p ≡ Less

-- the rising list of the live positions that come after one
abbrev pub ArePending : Tables → GroupRow → Options → Option Position → List Position → Type 0
ArePending t g o after = Enumerates position_cmp (λ p. IsLive t g o p × IsAfter after p)

-- how many rows of the start s were shown, where so many of the start of a position were
abbrev pub shown_before : Option Position → ℕ → ℕ → ℕ
shown_before None shown s = 0
shown_before (Some a) shown s = if a.start == s then shown else 0

-- of the pending positions those that are due: all of them, or those before which fewer rows of their start come than are still to be shown of it
abbrev pub due_of : ℕ → Option ℕ → ResumePoint → List Position → List Position
due_of leaves None point ps = ps
due_of leaves (Some per) point ps = filter (λ p. nat_lt (rows_before (rows_among leaves ps) (found_of p)) (per - shown_before point.after point.shown p.start)) ps

-- the shortest prefix that has `full` full positions or `many` positions, or all of them if they have fewer
abbrev pub passed_of : ℕ → ℕ → ℕ → List Position → List Position
passed_of leaves full many [] = []
passed_of leaves zero many (p ∷ ps) = []
passed_of leaves (suc full) zero (p ∷ ps) = []
passed_of leaves (suc full) (suc many) (p ∷ ps) = p ∷ passed_of leaves (if is_full leaves p then full else suc full) many ps

-- how many of the rows have the start s
abbrev pub rows_at : List Found → ℕ → ℕ
rows_at rows s = length (filter (λ f. f.start == s) rows)

-- how many rows of the start of the last position that was passed have been shown, at most 500; where none was passed, as many as before.
-- A search that shows all its rows does not count
abbrev pub shown_after : Option ℕ → ResumePoint → List Found → Option Position → Option ℕ
shown_after None point rows last = None
shown_after (Some per) point rows None = Some point.shown
shown_after (Some per) point rows (Some n) = Some (min (rows_at rows n.start + shown_before point.after point.shown n.start) page_limit)

-- the page over these pending positions: it passes the first of those that are due. Its rows are the full ones, `next` is the last, and at the `end` none
-- is left
abbrev pub page_of : ℕ → Option ℕ → ResumePoint → ℕ → List Position → Page
page_of leaves per point limit ps =
    let due = due_of leaves per point ps in
    let passed = passed_of leaves limit passed_limit due in
    let rows = rows_among leaves passed in
    record { rows = rows; next = last_or point.after passed; shown = shown_after per point rows (last_or None passed); end = length passed == length due }

-- the page of a search from a point on, with a limit of rows
abbrev pub IsPage : Tables → GroupRow → Options → ResumePoint → ℕ → Page → Type 0
IsPage t g o point limit page = (ps : List Position) × ArePending t g o point.after ps × (page ≡ page_of (length g.leaves) o.per point limit ps)

-- a page may be asked for: it has 1 to 500 rows, and so many of each start where the search shows the first ones alone
pub record IsAskable (o : Options) (limit : ℕ) : Type 0 where
  pub rows : (1 ≤ limit) × (limit ≤ page_limit)
  pub of_start : MatchOption o.per ⊤ (λ n. (1 ≤ n) × (n ≤ page_limit))

-- where the page after this one goes on
abbrev pub next_point : Page → ResumePoint
next_point page = record { after = page.next; shown = unwrap_or page.shown 0 }

-- pages of one search, each with some limit, and each going on where the one before ended
abbrev pub AreResumed : Tables → GroupRow → Options → ResumePoint → List Page → Type 0
AreResumed t g o point [] = ⊤
AreResumed t g o point (page ∷ pages) = ((limit : ℕ) × IsAskable o limit × IsPage t g o point limit page) × AreResumed t g o (next_point page) pages

-- a page has passed a position that was due, and goes on after it
pub record PassesOne (t : Tables) (g : GroupRow) (o : Options) (point : ResumePoint) (page : Page) : Type 0 where
  pub position : Position
  pub live : IsLive t g o position
  pub later : IsAfter point.after position
  pub pending : List Position
  pub are_pending : ArePending t g o point.after pending
  pub due : Contains (due_of (length g.leaves) o.per point pending) position
  pub next : page.next ≡ Some position

-- a prefix of the positions with so many full ones or so many in all, or all of them, while no shorter prefix has so many
pub record IsShortest (leaves full many : ℕ) (ps passed : List Position) : Type 0 where
  pub rest : List Position
  pub prefix : ps ≡ passed ++ rest
  pub enough : (rest ≡ []) ⊎ ((length (rows_among leaves passed) ≡ full) ⊎ (length passed ≡ many))
  pub none_shorter : (k : ℕ) → k < length passed → (length (rows_among leaves (take k passed)) < full) × (k < many)

-- the rows of all pages, joined
abbrev pub rows_of : List Page → List Found
rows_of pages = flat_map (λ (page : Page). page.rows) pages

-- whether the last page says that it is at the end
abbrev pub ends : List Page → Bool
ends [] = false
ends (page ∷ []) = page.end
ends (page ∷ next ∷ pages) = ends (next ∷ pages)

-- joined, the pages are the first rows of the listing, and all of them where the last one is at the end
pub record Joins (t : Tables) (g : GroupRow) (o : Options) (pages : List Page) (listing : List Found) : Type 0 where
  pub rest : List Found
  pub prefix : listing ≡ rows_of pages ++ rest
  pub whole : ends pages ≡ true → rest ≡ []
