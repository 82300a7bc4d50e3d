-- Pages of a tree of two leaves: `next` is the last place that was passed, which need not be a row.
use Rattle.std.proofs.Common.{◌≡◌, ℕ, refl, List, [], ◌∷◌, Option, Some, None, true, false}
use Rattle.desk_base.specs.rows.Types.{Position}
use Rattle.desk_base.specs.search.Page.{beginning, page_of}
use Rattle.desk_base.specs.search.Positions.{position_at}
use Rattle.desk_base.proofs.worked.Parts.{monday, row}

abbrev at : List (Option ℕ) → Position
at picks = position_at (monday 8 0) picks

-- resource 1 goes on to a row, and resource 2 to none
abbrev places : List Position
places = at (Some 1 ∷ []) ∷ at (Some 1 ∷ Some 2 ∷ []) ∷ at (Some 2 ∷ []) ∷ []

stops_at_its_limit : page_of 2 None beginning 1 places ≡ record { rows = row (monday 8 0) (Some 1 ∷ Some 2 ∷ []) ∷ []; next = Some (at (Some 1 ∷ Some 2 ∷ [])); shown = None; end = false }
stops_at_its_limit = refl

goes_on_after_the_last_place : page_of 2 None beginning 2 places ≡ record { rows = row (monday 8 0) (Some 1 ∷ Some 2 ∷ []) ∷ []; next = Some (at (Some 2 ∷ [])); shown = None; end = true }
goes_on_after_the_last_place = refl

-- where nothing is left, the place that was gone on from stays
stays_where_it_is : page_of 2 None (record { after = Some (at (Some 2 ∷ [])); shown = 0 }) 2 [] ≡ record { rows = []; next = Some (at (Some 2 ∷ [])); shown = None; end = true }
stays_where_it_is = refl
