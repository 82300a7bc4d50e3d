-- What is said of single picks of the trial group: off the grid, of no shape, not served, without room.
use Rattle.std.proofs.Common.{◌≡◌, ℕ, ◌≤◌, [], ◌∷◌, Some, None, true, false, refl, arith, inl, inr}
use Rattle.desk_base.specs.declared.asked.rules.LeafRule.TheVariants.{Kind}
use Rattle.desk_base.specs.declared.asked.rules.Verdict.TheVariants.{OffGrid, BadShape, NotEligible, Unfit}
use Rattle.desk_base.specs.meaning.Capacity.{capacity, calendar_capacity}
use Rattle.desk_base.specs.meaning.Eligible.{first_broken_rule}
use Rattle.desk_base.specs.meaning.Load.{room, own_load, plain_load, load}
use Rattle.desk_base.specs.meaning.Picks.{keeps_same}
use Rattle.desk_base.specs.meaning.Trees.{tree_of}
use Rattle.desk_base.specs.search.Listing.{IsOnGrid}
use Rattle.desk_base.specs.search.Verdicts.{IsVerdict, HasShape}
use Rattle.desk_base.specs.rows.Trial.{trial, trial_group, plain_leaf}
use Rattle.desk_base.proofs.worked.Parts.{monday}
use Rattle.desk_base.proofs.worked.Patterns.{begins_none, bad_from_second}

-- half past eight is no full hour
half_past : IsVerdict trial trial_group (monday 8 30) (Some 1 ∷ []) OffGrid
half_past on_grid = absurd (omega (arith, on_grid.steps))

at_nine : IsOnGrid trial_group (monday 9 0)
at_nine = record { from = omega arith; below = omega arith; steps = refl }

-- a second pick where there is one leaf
two_picks : IsVerdict trial trial_group (monday 9 0) (Some 1 ∷ Some 2 ∷ []) (BadShape 1)
two_picks = (at_nine, bad_from_second (tree_of trial_group.nodes) (true ∷ true ∷ []) (omega arith) ([], (0, omega arith, refl)) refl)

-- the one leaf is left out
no_resource : IsVerdict trial trial_group (monday 9 0) (None ∷ []) (BadShape 0)
no_resource = (
  at_nine,
  record {
    broken = inr (omega arith, begins_none (tree_of trial_group.nodes) (false ∷ []) refl);
    first = λ i h. absurd (omega (arith, h));
  },
)

-- no pick at all
no_pick : IsVerdict trial trial_group (monday 9 0) [] (BadShape 0)
no_pick = (
  at_nine,
  record {
    broken = inl (refl, (true, [], (0, omega arith, refl)));
    first = λ i h. absurd (omega (arith, h));
  },
)

-- what is no resource is of no kind
unknown_resource : first_broken_rule trial plain_leaf 99 ≡ Some Kind
unfolding first_broken_rule
unknown_resource = refl

one_picked : (r : ℕ) → HasShape trial_group (monday 9 0) (Some r ∷ [])
one_picked r = record { grid = at_nine; pattern = (0, omega arith, refl) }

unknown_is_not_eligible : IsVerdict trial trial_group (monday 9 0) (Some 99 ∷ []) (NotEligible 0 99 Kind)
unfolding first_broken_rule
unknown_is_not_eligible = (one_picked 99, (record { number = 0; leaf = plain_leaf; resource = 99 }, refl, refl, refl))

-- Cyd begins at 10:00
cyd_at_nine : IsVerdict trial trial_group (monday 9 0) (Some 3 ∷ []) Unfit
unfolding own_load plain_load load room capacity calendar_capacity first_broken_rule keeps_same
cyd_at_nine = (record { shape = one_picked 3; serve = refl }, refl, λ fits. let over : 1 ≤ 0 = fits.at 3 (monday 9 0) (omega arith, omega arith) in absurd (omega (arith, over)))
