-- What the chosen leaves of a group ask for.
use Rattle.std.proofs.Common.{◌≡◌, ℕ, ◌+◌, ◌≤◌, true, List, [], ◌∷◌, map, length, Option, Some, None, refl, arith, nat_le}
use Rattle.std.proofs.lemmas.Bool.Decides.{nat_tests}
use Rattle.std.specs.List.{list_all}
use Rattle.desk_base.specs.declared.rows.tables.Tables.{Tables}
use Rattle.desk_base.specs.declared.rows.groups.GroupRow.{GroupRow}
use Rattle.desk_base.specs.declared.rows.groups.Leaf.{Leaf}
use Rattle.desk_base.specs.rules.Limits.{end_of_minutes}
use Rattle.desk_base.specs.meaning.Time.{leaf_time}
use Rattle.desk_base.specs.meaning.Picks.{Choice, choices_of}
use Rattle.desk_base.specs.search.Listing.{serves, ask_for}
use Rattle.desk_base.proofs.lists.Tests.{and_left, and_right, and_both}
use Rattle.desk_feasible.proofs.Windows.{served, leaf_end}

end_fits : (t : Tables) (g : GroupRow) (s : ℕ) (c : Choice) → g.to ≤ end_of_minutes → serves t g s c ≡ true → nat_le (leaf_time c.leaf s).to end_of_minutes ≡ true
end_fits t g s c b e = let h = leaf_end g c.leaf s (served t g c.leaf s c.resource e).1 in grind (arith, nat_tests)

pub ends_fit : (t : Tables) (g : GroupRow) (s : ℕ) (cs : List Choice) → g.to ≤ end_of_minutes → list_all (serves t g s) cs ≡ true → list_all (λ c. nat_le (leaf_time c.leaf s).to end_of_minutes) cs ≡ true
ends_fit t g s [] b e = refl
ends_fit t g s (c ∷ cs) b e =
    and_both (nat_le (leaf_time c.leaf s).to end_of_minutes) (list_all (λ c. nat_le (leaf_time c.leaf s).to end_of_minutes) cs)
    (end_fits t g s c b (and_left (serves t g s c) (list_all (serves t g s) cs) e))
    (ends_fit t g s cs b (and_right (serves t g s c) (list_all (serves t g s) cs) e))

pub length_asks : (s i : ℕ) (leaves : List Leaf) (picks : List (Option ℕ)) → length (map (ask_for s) (choices_of i leaves picks)) ≤ length leaves
length_asks s i [] picks = omega arith
length_asks s i (l ∷ ls) [] = omega arith
length_asks s i (l ∷ ls) (None ∷ picks) = omega (arith, length_asks s (i + 1) ls picks)
length_asks s i (l ∷ ls) (Some r ∷ picks) = omega (arith, length_asks s (i + 1) ls picks)
