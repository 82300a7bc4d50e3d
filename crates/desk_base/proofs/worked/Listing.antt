-- The listing of the one group of the trial tables: ten rows.
use Rattle.std.proofs.Common.{rules, ◌≡◌, ℕ, refl, List, [], ◌∷◌, Some, None, take, drop, map, true, false}
use Rattle.std.specs.List.Sorted.{IsStrictlySortedBy}
use Rattle.desk_base.specs.rows.Types.{Found, Position}
use Rattle.desk_base.specs.meaning.Capacity.{capacity, calendar_capacity}
use Rattle.desk_base.specs.meaning.Eligible.{first_broken_rule}
use Rattle.desk_base.specs.meaning.Load.{room, own_load, plain_load, load}
use Rattle.desk_base.specs.meaning.Picks.{keeps_same}
use Rattle.desk_base.specs.search.Order.{found_cmp}
use Rattle.desk_base.specs.search.Page.{beginning, page_of}
use Rattle.desk_base.specs.search.Positions.{position_at}
use Rattle.desk_base.specs.rows.Trial.{trial, trial_group}
use Rattle.desk_base.proofs.worked.Parts.{monday, row, rows_at}

-- one resource from a full hour on
abbrev one : ℕ → ℕ → Found
one hour resource = row (monday hour 0) (Some resource ∷ [])

abbrev ten : List Found
ten = one 8 1 ∷ one 8 2 ∷ one 9 1 ∷ one 9 2 ∷ one 10 1 ∷ one 10 2 ∷ one 10 3 ∷ one 11 1 ∷ one 11 2 ∷ one 11 3 ∷ []

-- Ann and Bob serve from 08:00, and Cyd from 10:00
ten_rows : rows_at trial trial_group (monday 8 0 ∷ monday 9 0 ∷ monday 10 0 ∷ monday 11 0 ∷ []) ≡ ten
unfolding own_load plain_load load room capacity calendar_capacity first_broken_rule keeps_same
ten_rows = refl

-- they rise by start, and there by resource
ten_rise : IsStrictlySortedBy found_cmp ten
unfolding IsStrictlySortedBy
ten_rise = search rules

-- with one leaf each row is a position
abbrev ten_positions : List Position
ten_positions = map (λ f. position_at f.start f.picks) ten

-- a page of at most four rows goes on after the fourth
first_page : page_of 1 None beginning 4 ten_positions ≡ record { rows = take 4 ten; next = Some (position_at (monday 9 0) (Some 2 ∷ [])); shown = None; end = false }
first_page = refl

-- after the eighth two are left, and the page is the last
last_page : page_of 1 None (record { after = Some (position_at (monday 11 0) (Some 1 ∷ [])); shown = 0 }) 4 (drop 8 ten_positions) ≡ record { rows = drop 8 ten; next = Some (position_at (monday 11 0) (Some 3 ∷ [])); shown = None; end = true }
last_page = refl

-- after the last there is none, and `next` stays
no_page : page_of 1 None (record { after = Some (position_at (monday 11 0) (Some 3 ∷ [])); shown = 0 }) 4 [] ≡ record { rows = []; next = Some (position_at (monday 11 0) (Some 3 ∷ [])); shown = None; end = true }
no_page = refl
