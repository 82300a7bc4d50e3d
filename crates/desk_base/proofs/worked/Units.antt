-- Two people of one unit, out of four in two units.
use Rattle.std.proofs.Common.{◌≡◌, ℕ, refl, List, [], ◌∷◌, ◌++◌, Some, Option, arith}
use Rattle.std.specs.Prelude.{codes}
use Rattle.desk_base.specs.rows.Types.{Tables, GroupRow, ResourceRow, Leaf as LeafFields}
use Rattle.desk_base.specs.declared.rows.groups.NodeKind.TheVariants.{All, Leaf}
use Rattle.desk_base.specs.declared.rows.groups.Same.TheVariants.{Unit as SameUnit}
use Rattle.desk_base.specs.declared.asked.rules.Verdict.TheVariants.{NotSame}
use Rattle.desk_base.specs.meaning.Capacity.{capacity, calendar_capacity}
use Rattle.desk_base.specs.meaning.Eligible.{first_broken_rule}
use Rattle.desk_base.specs.meaning.Load.{room, own_load, plain_load, load}
use Rattle.desk_base.specs.meaning.Picks.{keeps_same}
use Rattle.desk_base.specs.search.Verdicts.{IsVerdict}
use Rattle.desk_base.specs.rows.Trial.{trial, trial_group, plain_leaf}
use Rattle.desk_base.proofs.worked.Parts.{monday, plain_resource, node, row, rows_at}

abbrev in_unit : ℕ → ℕ → ResourceRow
in_unit id unit = record (plain_resource id 1) { unit = unit }

-- resources 4 and 5 in unit 2, 6 and 7 in unit 3
abbrev with_units : Tables
with_units = record trial {
  units = trial.units ++ record { id = 2; name = codes "X" } ∷ record { id = 3; name = codes "X" } ∷ [];
  resources = trial.resources ++ in_unit 4 2 ∷ in_unit 5 2 ∷ in_unit 6 3 ∷ in_unit 7 3 ∷ [];
}

abbrev one_of_four : LeafFields
one_of_four = record plain_leaf { required = 4 ∷ 5 ∷ 6 ∷ 7 ∷ [] }

-- two leaves of the same unit, from 08:00 to 09:00
abbrev pair : GroupRow
pair = record trial_group { id = 2; to = monday 9 0; nodes = record (node 0 All) { same = SameUnit } ∷ node 1 Leaf ∷ node 1 Leaf ∷ []; leaves = one_of_four ∷ one_of_four ∷ [] }

abbrev two : ℕ → ℕ → List (Option ℕ)
two first second = Some first ∷ Some second ∷ []

-- four of the twelve pairs of different people are of one unit, and nobody serves both leaves
four_pairs : rows_at with_units pair (monday 8 0 ∷ []) ≡ row (monday 8 0) (two 4 5) ∷ row (monday 8 0) (two 5 4) ∷ row (monday 8 0) (two 6 7) ∷ row (monday 8 0) (two 7 6) ∷ []
unfolding own_load plain_load load room capacity calendar_capacity first_broken_rule keeps_same
four_pairs = refl

-- a pair of two units breaks the root
two_units : IsVerdict with_units pair (monday 8 0) (two 4 6) (NotSame 0)
unfolding first_broken_rule keeps_same
two_units = (record { shape = record { grid = record { from = omega arith; below = omega arith; steps = refl }; pattern = (0, omega arith, refl) }; serve = refl }, refl)
