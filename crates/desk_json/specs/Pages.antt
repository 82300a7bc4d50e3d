-- The JSON of a page of rows.
use Rattle.std.specs.Prelude.{ℕ, Bool, List, ◌∷◌, map, codes, Option, Some, None}
use Rattle.serde_json.specs.Data.{Data, null, boolean, string, object, no_members, member}
use Rattle.desk_base.specs.declared.search.results.Found.{Found}
use Rattle.desk_base.specs.declared.search.results.Position.{Position}
use Rattle.desk_base.specs.declared.search.results.Page.{Page}
use Rattle.desk_json.specs.Values.{whole_number, number_or_null, moment_data, list_of}
use Rattle.desk_json.specs.Cursors.{cursor_text}

-- a row is its start, and then its picks: resources, or null for a leaf that is left out
abbrev pub row_data : Found → Data
row_data row = list_of (moment_data row.start ∷ map number_or_null row.picks)

-- the rows of a page, in order
abbrev pub rows_data : List Found → Data
rows_data rows = list_of (map row_data rows)

-- the cursor behind which the next page comes, over this revision and behind the shown rows, or null where there is none
abbrev pub next_data : ℕ → Option ℕ → Option Position → Data
next_data revision shown (Some position) = string (cursor_text (record { revision = revision; shown = shown; position = position }))
next_data revision shown None = null

-- the object of a page: whether it ends the search, where the next begins, the revision, and the rows
abbrev pub page_object : Bool → Data → ℕ → Data → Data
page_object end next revision rows =
    object (member (codes "end") (boolean end)
    (member (codes "next") next
    (member (codes "revision") (whole_number revision)
    (member (codes "rows") rows no_members))))

-- a page of rows
abbrev pub page_data : ℕ → Page → Data
page_data revision page = page_object page.end (next_data revision page.shown page.next) revision (rows_data page.rows)
