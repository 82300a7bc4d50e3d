-- The first key that is not there, over lists that are joined.
use Rattle.std.proofs.Common.{◌≡◌, Bool, true, false, cond, not, ◌&&◌, List, [], ◌∷◌, ◌++◌, map, Option, Some, None, refl, ap, ◌∙◌, is_none}
use Rattle.std.proofs.lemmas.List.Folds.{find-append}
use Rattle.std.proofs.lemmas.List.{append_assoc}
use Rattle.std.specs.List.{list_all}
use Rattle.std.specs.Option.{option_or}
use Rattle.desk_base.specs.declared.rows.tables.Tables.{Tables}
use Rattle.desk_base.specs.declared.rows.tables.Key.{Key}
use Rattle.desk_base.specs.declared.rows.groups.Leaf.{Leaf}
use Rattle.desk_base.specs.declared.rows.tables.Table.TheVariants.{Unit, Resource}
use Rattle.desk_base.specs.rows.Keys.{id_key}
use Rattle.desk_base.specs.rows.Rows.{leaf_citations}
use Rattle.desk_base.specs.asked.Refusing.{is_there}
use Rattle.desk_rules.specs.Missing.{missing, demand_keys, choice_keys}

pub missing_append : (t : Tables) (xs ys : List Key) → missing t (xs ++ ys) ≡ option_or (missing t xs) (missing t ys)
missing_append t xs ys = find-append (λ k. not (is_there t k)) xs ys

or_or : {A : Type 0} (x y z : Option A) → option_or (option_or x y) z ≡ option_or x (option_or y z)
or_or None y z = refl
or_or (Some x) y z = refl

pub missing_three : (t : Tables) (xs ys zs : List Key) → missing t (xs ++ ys ++ zs) ≡ option_or (missing t xs) (option_or (missing t ys) (missing t zs))
missing_three t xs ys zs =
    missing_append t (xs ++ ys) zs ∙ ap (λ o. option_or o (missing t zs)) (missing_append t xs ys) ∙ or_or (missing t xs) (missing t ys) (missing t zs)

-- what a leaf lists, in two parts
pub leaf_parts : (t : Tables) (l : Leaf) → missing t (leaf_citations l) ≡ option_or (missing t (demand_keys l)) (missing t (choice_keys l))
leaf_parts t l =
    let units = map (id_key Unit) l.units in
    let required = map (id_key Resource) l.required in
    let restricted = map (id_key Resource) l.restricted in
    ap (missing t) (ap (λ x. x ++ restricted) (append_assoc (demand_keys l) units required) ∙ append_assoc (demand_keys l) (units ++ required) restricted)
    ∙ missing_append t (demand_keys l) (choice_keys l)

-- none is missing where all are there
pub none_missing : (t : Tables) (keys : List Key) → is_none (missing t keys) ≡ list_all (is_there t) keys
none_missing t [] = refl
none_missing t (k ∷ keys) = step (is_there t k) (none_missing t keys)
  where
    step : (b : Bool) → is_none (missing t keys) ≡ list_all (is_there t) keys → is_none (cond (not b) (Some k) (missing t keys)) ≡ (b && list_all (is_there t) keys)
    step true e = e
    step false e = refl
