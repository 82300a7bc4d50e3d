-- A choice between one leaf and two: Any of a leaf of role 1, and All of leaves of roles 2 and 3.
use Rattle.std.proofs.Common.{rules, ◌≡◌, ℕ, refl, [], ◌∷◌, map, flat_map, true, false, Some, None, arith}
use Rattle.std.specs.Prelude.{codes}
use Rattle.std.specs.List.Sorted.{IsStrictlySortedBy}
use Rattle.desk_base.specs.rows.Types.{Tables, GroupRow, Leaf as LeafFields, HasRow, NamedRow}
use Rattle.desk_base.specs.declared.rows.groups.NodeKind.TheVariants.{All, Any, Leaf}
use Rattle.desk_base.specs.declared.asked.rules.LeafRule.TheVariants.{Role}
use Rattle.desk_base.specs.declared.asked.rules.Verdict.TheVariants.{BadShape, NotEligible}
use Rattle.desk_base.specs.meaning.Capacity.{capacity, calendar_capacity}
use Rattle.desk_base.specs.meaning.Eligible.{first_broken_rule}
use Rattle.desk_base.specs.meaning.Load.{room, own_load, plain_load, load}
use Rattle.desk_base.specs.meaning.Trees.{tree_of, patterns, leaf, all, any, none, tree_and}
use Rattle.desk_base.specs.meaning.Picks.{keeps_same}
use Rattle.desk_base.specs.search.Order.{position_cmp}
use Rattle.desk_base.specs.search.Listing.{IsOnGrid}
use Rattle.desk_base.specs.search.Verdicts.{IsVerdict}
use Rattle.desk_base.specs.search.Positions.{position_at}
use Rattle.desk_base.specs.rows.Trial.{trial, trial_group, plain_leaf}
use Rattle.desk_base.proofs.worked.Parts.{monday, node, row, live_at, rows_at}
use Rattle.desk_base.proofs.worked.Patterns.{bad_from_second}

abbrev role : ℕ → NamedRow
role id = record { id = id; name = codes "X" }

abbrev has : ℕ → ℕ → HasRow
has resource what = record { resource = resource; what = what; rating = 0 }

abbrev leaf_of_role : ℕ → LeafFields
leaf_of_role what = record plain_leaf { roles = what ∷ [] }

-- resource 1 has role 1, resource 2 role 2, and resource 3 role 3
abbrev with_roles : Tables
with_roles = record trial { roles = role 1 ∷ role 2 ∷ role 3 ∷ []; has_roles = has 1 1 ∷ has 2 2 ∷ has 3 3 ∷ [] }

-- from 10:00 to 11:00
abbrev choice : GroupRow
choice = record trial_group { id = 2; from = monday 10 0; to = monday 11 0; nodes = node 0 Any ∷ node 1 Leaf ∷ node 1 All ∷ node 2 Leaf ∷ node 2 Leaf ∷ []; leaves = leaf_of_role 1 ∷ leaf_of_role 2 ∷ leaf_of_role 3 ∷ [] }

choice_tree : tree_of choice.nodes ≡ any (tree_and leaf (tree_and (all (tree_and leaf (tree_and leaf none))) none))
choice_tree = refl

-- the one leaf alone, or the other two
two_patterns : patterns (tree_of choice.nodes) ≡ (true ∷ false ∷ false ∷ []) ∷ (false ∷ true ∷ true ∷ []) ∷ []
two_patterns = refl

two_rows : rows_at with_roles choice (monday 10 0 ∷ []) ≡ row (monday 10 0) (Some 1 ∷ None ∷ None ∷ []) ∷ row (monday 10 0) (None ∷ Some 2 ∷ Some 3 ∷ []) ∷ []
unfolding own_load plain_load load room capacity calendar_capacity first_broken_rule keeps_same
two_rows = refl

-- of one, two and three picks
six_live : flat_map (λ n. live_at with_roles choice n (monday 10 0)) (1 ∷ 2 ∷ 3 ∷ [])
    ≡ (Some 1 ∷ []) ∷ (None ∷ []) ∷ (Some 1 ∷ None ∷ []) ∷ (None ∷ Some 2 ∷ []) ∷ (Some 1 ∷ None ∷ None ∷ []) ∷ (None ∷ Some 2 ∷ Some 3 ∷ []) ∷ []
unfolding own_load plain_load load room capacity calendar_capacity first_broken_rule keeps_same
six_live = refl

-- each position comes before its extensions, and a leaf that is left out comes last
six_rise : IsStrictlySortedBy position_cmp (map (position_at (monday 10 0)) ((Some 1 ∷ []) ∷ (Some 1 ∷ None ∷ []) ∷ (Some 1 ∷ None ∷ None ∷ []) ∷ (None ∷ []) ∷ (None ∷ Some 2 ∷ []) ∷ (None ∷ Some 2 ∷ Some 3 ∷ []) ∷ []))
unfolding IsStrictlySortedBy
six_rise = search rules

at_ten : IsOnGrid choice (monday 10 0)
at_ten = record { from = omega arith; below = omega arith; steps = refl }

-- after the one leaf no other is chosen
both_children : IsVerdict with_roles choice (monday 10 0) (Some 1 ∷ Some 2 ∷ None ∷ []) (BadShape 1)
both_children = (at_ten, bad_from_second (tree_of choice.nodes) (true ∷ true ∷ false ∷ []) (omega arith) (false ∷ false ∷ [], (0, omega arith, refl)) refl)

-- resource 2 has another role
without_role : IsVerdict with_roles choice (monday 10 0) (Some 2 ∷ None ∷ None ∷ []) (NotEligible 0 2 Role)
unfolding first_broken_rule
without_role = (record { grid = at_ten; pattern = (0, omega arith, refl) }, (record { number = 0; leaf = leaf_of_role 1; resource = 2 }, refl, refl, refl))
