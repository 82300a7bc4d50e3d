-- The resources that serve a leaf.
use Rattle.std.specs.Prelude.{ℕ, ◌≡◌, nat_lt, nat_le, List, [], ◌∷◌, map, filter, Option, Some, None, is_none, if◌then◌else◌}
use Rattle.std.specs.Ordering.{nat_cmp}
use Rattle.desk_base.specs.declared.rows.tables.Tables.{Tables}
use Rattle.desk_base.specs.declared.rows.groups.Leaf.{Leaf}
use Rattle.desk_base.specs.meaning.Eligible.{eligibility, first_broken_rule}
use Rattle.desk_base.specs.rules.Rules.{first_broken}
use Rattle.desk_base.specs.search.Order.{Enumerates}

-- the rising list of those that break no rule of the leaf, but for its windows
abbrev pub AreCandidates : Tables → Leaf → List ℕ → Type 0
AreCandidates t leaf = Enumerates nat_cmp (λ r. first_broken_rule t leaf r ≡ None)

-- a list for each of the leaves
abbrev pub AreCandidatesOf : Tables → List Leaf → List (List ℕ) → Type 0
AreCandidatesOf t [] [] = Unit {0}
AreCandidatesOf t [] (c ∷ cs) = ⊥
AreCandidatesOf t (l ∷ ls) [] = ⊥
AreCandidatesOf t (l ∷ ls) (c ∷ cs) = AreCandidates t l c × AreCandidatesOf t ls cs

-- those of the resources whose rows break no rule of the leaf
abbrev pub serving : Tables → Leaf → List ℕ
serving t leaf = map (λ x. x.id) (filter (λ x. is_none (first_broken (eligibility t leaf x))) t.resources)

-- the first of two, where one may be missing
abbrev pub lesser : Option ℕ → Option ℕ → Option ℕ
lesser None second = second
lesser (Some a) None = Some a
lesser (Some a) (Some b) = if nat_lt a b then Some a else Some b

-- the least of the numbers that is not below one
abbrev pub least_from : ℕ → List ℕ → Option ℕ
least_from from [] = None
least_from from (x ∷ xs) = lesser (if nat_le from x then Some x else None) (least_from from xs)
