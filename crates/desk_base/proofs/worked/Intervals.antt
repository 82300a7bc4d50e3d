-- Searches that show the first rows of each start: their listing and their pages, over the ten rows of the trial tables.
use Rattle.std.proofs.Common.{◌≡◌, refl, List, [], ◌∷◌, map, Some, true, false, ℕ}
use Rattle.desk_base.specs.rows.Types.{Found, Position, Page}
use Rattle.desk_base.specs.search.Listing.{shown_rows}
use Rattle.desk_base.specs.search.Page.{ResumePoint, beginning, page_of, next_point}
use Rattle.desk_base.specs.search.Positions.{position_at, positions_after}
use Rattle.desk_base.proofs.worked.Parts.{monday, row}

-- one resource from a full hour on
abbrev one : ℕ → ℕ → Found
one hour resource = row (monday hour 0) (Some resource ∷ [])

abbrev at : ℕ → ℕ → Position
at hour resource = position_at (monday hour 0) (Some resource ∷ [])

abbrev ten : List Found
ten = one 8 1 ∷ one 8 2 ∷ one 9 1 ∷ one 9 2 ∷ one 10 1 ∷ one 10 2 ∷ one 10 3 ∷ one 11 1 ∷ one 11 2 ∷ one 11 3 ∷ []

abbrev ten_positions : List Position
ten_positions = map (λ f. position_at f.start f.picks) ten

-- the page from a point on
abbrev page_from : ℕ → ResumePoint → ℕ → Page
page_from per point limit = page_of 1 (Some per) point limit (positions_after point.after ten_positions)

-- ---- the listings

one_of_each : shown_rows (Some 1) ten ≡ one 8 1 ∷ one 9 1 ∷ one 10 1 ∷ one 11 1 ∷ []
one_of_each = refl

two_of_each : shown_rows (Some 2) ten ≡ one 8 1 ∷ one 8 2 ∷ one 9 1 ∷ one 9 2 ∷ one 10 1 ∷ one 10 2 ∷ one 11 1 ∷ one 11 2 ∷ []
two_of_each = refl

-- ---- one of each start, on one page

one_page : page_from 1 beginning 50 ≡ record { rows = one 8 1 ∷ one 9 1 ∷ one 10 1 ∷ one 11 1 ∷ []; next = Some (at 11 1); shown = Some 1; end = true }
one_page = refl

-- ---- two of each start, on three pages: what was shown of a start counts on the next page

abbrev first_page : Page
first_page = record { rows = one 8 1 ∷ one 8 2 ∷ one 9 1 ∷ []; next = Some (at 9 1); shown = Some 1; end = false }

first_is : page_from 2 beginning 3 ≡ first_page
first_is = refl

abbrev second_page : Page
second_page = record { rows = one 9 2 ∷ one 10 1 ∷ one 10 2 ∷ []; next = Some (at 10 2); shown = Some 2; end = false }

second_is : page_from 2 (next_point first_page) 3 ≡ second_page
second_is = refl

third_is : page_from 2 (next_point second_page) 3 ≡ record { rows = one 11 1 ∷ one 11 2 ∷ []; next = Some (at 11 2); shown = Some 2; end = true }
third_is = refl

-- ---- a point that no page gave: more rows of the start were shown than it has, so the next one is at the next start

after_more : page_from 2 (record { after = Some (at 8 1); shown = 9 }) 1 ≡ record { rows = one 9 1 ∷ []; next = Some (at 9 1); shown = Some 1; end = false }
after_more = refl
