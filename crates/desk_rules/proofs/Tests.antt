-- Tests of several parts, over lists.
use Rattle.std.proofs.Common.{◌≡◌, Bool, true, false, cond, ◌&&◌, ◌||◌, List, [], ◌∷◌, ◌++◌, Some, refl, ap, ◌∙◌, is_none}
use Rattle.std.specs.Prelude.{filter, Option, None}
use Rattle.std.specs.List.{list_any}
use Rattle.std.specs.Option.{option_or}
use Rattle.desk_base.specs.declared.asked.rules.Field.{Field}
use Rattle.desk_base.specs.declared.rows.groups.Leaf.{Leaf}
use Rattle.desk_base.specs.rules.Fields.{Rules, leaf_rules}
use Rattle.desk_base.specs.rules.Rules.{first_broken}
use Rattle.desk_rules.specs.Leaves.{number_rules, list_rules, last_rules}

-- ---- a test whose first part is a filter

pub any_within_pair : {A : Type 0} (p q r : A → Bool) (xs : List A) → list_any (λ x. q x && r x) (filter p xs) ≡ list_any (λ x. p x && q x && r x) xs
any_within_pair p q r [] = refl
any_within_pair p q r (x ∷ xs) = step (p x) (any_within_pair p q r xs)
  where
    step : (b : Bool) → list_any (λ x. q x && r x) (filter p xs) ≡ list_any (λ x. p x && q x && r x) xs
        → list_any (λ x. q x && r x) (cond b (x ∷ filter p xs) (filter p xs)) ≡ ((b && q x && r x) || list_any (λ x. p x && q x && r x) xs)
    step true e = ap (λ c. (q x && r x) || c) e
    step false e = e

pub any_within_three : {A : Type 0} (p q r s : A → Bool) (xs : List A) → list_any (λ x. q x && r x && s x) (filter p xs) ≡ list_any (λ x. p x && q x && r x && s x) xs
any_within_three p q r s [] = refl
any_within_three p q r s (x ∷ xs) = step (p x) (any_within_three p q r s xs)
  where
    step : (b : Bool) → list_any (λ x. q x && r x && s x) (filter p xs) ≡ list_any (λ x. p x && q x && r x && s x) xs
        → list_any (λ x. q x && r x && s x) (cond b (x ∷ filter p xs) (filter p xs)) ≡ ((b && q x && r x && s x) || list_any (λ x. p x && q x && r x && s x) xs)
    step true e = ap (λ c. (q x && r x && s x) || c) e
    step false e = e

-- ---- rules that are joined

-- the first broken rule is one of the first rules, or else one of those behind them
pub broken_append : (xs ys : Rules) → first_broken (xs ++ ys) ≡ option_or (first_broken xs) (first_broken ys)
broken_append [] ys = refl
broken_append (x ∷ xs) ys = step x.0 (broken_append xs ys)
  where
    step : (b : Bool) → first_broken (xs ++ ys) ≡ option_or (first_broken xs) (first_broken ys) → cond b (first_broken (xs ++ ys)) (Some x.1) ≡ option_or (cond b (first_broken xs) (Some x.1)) (first_broken ys)
    step true e = e
    step false e = refl

-- the rules of a leaf, in three parts
pub leaf_parts : (l : Leaf) → first_broken (leaf_rules l) ≡ option_or (first_broken (number_rules l)) (option_or (first_broken (list_rules l)) (first_broken (last_rules l)))
leaf_parts l = broken_append (number_rules l) (list_rules l ++ last_rules l) ∙ ap (option_or (first_broken (number_rules l))) (broken_append (list_rules l) (last_rules l))

-- a row that breaks no rule of its fields, where it is no tree
pub no_tree : (o : Option Field) → is_none o ≡ (is_none o && true)
no_tree None = refl
no_tree (Some field) = refl
