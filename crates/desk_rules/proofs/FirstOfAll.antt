-- The first that is found in a list is found in its first part, or else behind it.
use Rattle.std.proofs.Common.{◌≡◌, ◌-◌, ◌≤◌, List, [], ◌∷◌, length, take, drop, get_or, sym, ap, ◌∙◌, arith}
use Rattle.std.proofs.lemmas.List.{take_rest}
use Rattle.std.specs.Prelude.{flat_map}
use Rattle.std.specs.Option.{option_or}
use Rattle.desk_base.specs.declared.rows.tables.Tables.{Tables}
use Rattle.desk_base.specs.declared.rows.groups.Leaf.{Leaf}
use Rattle.desk_base.specs.rows.Rows.{leaf_citations}
use Rattle.desk_base.specs.rules.Fields.{join_rules, leaf_rules}
use Rattle.desk_base.specs.rules.Rules.{first_broken}
use Rattle.desk_rules.specs.Missing.{missing}
use Rattle.desk_rules.proofs.Tests.{broken_append}
use Rattle.desk_rules.proofs.Missing.{missing_append}

-- what stands behind the first leaf
abbrev behind : List Leaf → List Leaf
behind leaves = take (length leaves - 1) (drop 1 leaves)

pub broken_first : (leaves : List Leaf) (l : Leaf) → 1 ≤ length leaves → l ≡ get_or leaves 0 l
    → option_or (first_broken (leaf_rules l)) (first_broken (join_rules leaf_rules (behind leaves))) ≡ first_broken (join_rules leaf_rules leaves)
broken_first [] l h e = absurd (omega arith)
broken_first (x ∷ leaves) l h e =
    ap (λ y. option_or (first_broken (leaf_rules y)) (first_broken (join_rules leaf_rules (behind (x ∷ leaves))))) e
    ∙ ap (λ r. option_or (first_broken (leaf_rules x)) (first_broken (join_rules leaf_rules r))) (take_rest (x ∷ leaves) 1)
    ∙ sym (broken_append (leaf_rules x) (join_rules leaf_rules leaves))

pub missing_first : (t : Tables) (leaves : List Leaf) (l : Leaf) → 1 ≤ length leaves → l ≡ get_or leaves 0 l
    → option_or (missing t (leaf_citations l)) (missing t (flat_map leaf_citations (behind leaves))) ≡ missing t (flat_map leaf_citations leaves)
missing_first t [] l h e = absurd (omega arith)
missing_first t (x ∷ leaves) l h e =
    ap (λ y. option_or (missing t (leaf_citations y)) (missing t (flat_map leaf_citations (behind (x ∷ leaves))))) e
    ∙ ap (λ r. option_or (missing t (leaf_citations x)) (missing t (flat_map leaf_citations r))) (take_rest (x ∷ leaves) 1)
    ∙ sym (missing_append t (leaf_citations x) (flat_map leaf_citations leaves))
