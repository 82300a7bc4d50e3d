-- The resources that are picked: how many there are, and which of them is the first that is not there.
use Rattle.std.proofs.Common.{◌≡◌, ℕ, ◌+◌, ◌<◌, not, cond, List, [], ◌∷◌, ◌++◌, map, length, count_by, take, drop, get_or, Option, Some, None, is_some, refl, sym, ap, ◌∙◌, arith}
use Rattle.std.proofs.lemmas.List.{take_more, take-append-drop, map-append}
use Rattle.std.proofs.lemmas.Grind.{flat_map-append}
use Rattle.std.proofs.lemmas.List.Recursion.{is_count_by}
use Rattle.std.proofs.lemmas.List.Folds.{find-append}
use Rattle.std.specs.Prelude.{find, option_map}
use Rattle.std.specs.Option.{option_or, option_to_list}
use Rattle.desk_base.specs.declared.rows.tables.Tables.{Tables}
use Rattle.desk_base.specs.declared.rows.tables.Key.{Key}
use Rattle.desk_base.specs.declared.rows.tables.Table.TheVariants.{Resource}
use Rattle.desk_base.specs.declared.asked.refusals.Refusal.{Refusal}
use Rattle.desk_base.specs.declared.asked.refusals.Refusal.TheVariants.{UnknownId}
use Rattle.desk_base.specs.rows.Keys.{id_key}
use Rattle.desk_base.specs.asked.Refusing.{is_there, picked, unknown_among}
use Rattle.desk_change.proofs.Options.{map-or}

-- ---- how many are picked

pub length_picked : (picks : List (Option ℕ)) → count_by (λ p. is_some p) picks ≡ length (picked picks)
length_picked picks = sym (is_count_by (λ ps. length (picked ps)) (λ p. is_some p) refl step picks)
  where
    step : (p : Option ℕ) (ps : List (Option ℕ)) → length (picked (p ∷ ps)) ≡ cond (is_some p) (1 + length (picked ps)) (length (picked ps))
    step None ps = refl
    step (Some r) ps = omega arith

-- ---- the first that is not there

-- the first key that is not there is the first of some, or else the first of those after them
pub unknown-append : (t : Tables) (ks js : List Key) → unknown_among t (ks ++ js) ≡ option_or (unknown_among t ks) (unknown_among t js)
unknown-append t ks js =
    let missing = λ (k : Key). not (is_there t k) in
    ap (option_map UnknownId) (find-append missing ks js) ∙ map-or UnknownId (find missing ks) (find missing js)

-- the first picked resource that is not there
abbrev unknown_picked : Tables → List (Option ℕ) → Option Refusal
unknown_picked t picks = unknown_among t (map (id_key Resource) (picked picks))

unknown_picked-append : (t : Tables) (xs ys : List (Option ℕ)) → unknown_picked t (xs ++ ys) ≡ option_or (unknown_picked t xs) (unknown_picked t ys)
unknown_picked-append t xs ys =
    ap (λ l. unknown_among t (map (id_key Resource) l)) (flat_map-append option_to_list xs ys)
    ∙ ap (unknown_among t) (map-append (id_key Resource) (picked xs) (picked ys))
    ∙ unknown-append t (map (id_key Resource) (picked xs)) (map (id_key Resource) (picked ys))

-- that of one alone
unknown_pick : (t : Tables) (x : Option ℕ) → unknown_picked t (x ∷ []) ≡ unknown_among t (map (id_key Resource) (option_to_list x))
unknown_pick t None = refl
unknown_pick t (Some r) = refl

front_more : (t : Tables) (picks : List (Option ℕ)) (i : ℕ) (x : Option ℕ) → i < length picks → x ≡ get_or picks i x → unknown_picked t (take i picks) ≡ None
    → unknown_picked t (take (i + 1) picks) ≡ unknown_among t (map (id_key Resource) (option_to_list x))
front_more t picks i x h e n =
    ap (unknown_picked t) (take_more picks i x h ∙ ap (λ y. take i picks ++ y ∷ []) (sym e)) ∙ unknown_picked-append t (take i picks) (x ∷ [])
    ∙ ap (λ o. option_or o (unknown_picked t (x ∷ []))) n ∙ unknown_pick t x

-- where the first i are there and the next one is too, the first i + 1 are
pub pick_known : (t : Tables) (picks : List (Option ℕ)) (i : ℕ) (x : Option ℕ) → i < length picks → x ≡ get_or picks i x
    → unknown_among t (map (id_key Resource) (picked (take i picks))) ≡ None → None ≡ unknown_among t (map (id_key Resource) (option_to_list x))
    → unknown_among t (map (id_key Resource) (picked (take (i + 1) picks))) ≡ None
pick_known t picks i x h e n k = front_more t picks i x h e n ∙ sym k

-- where the first i are there and the next one is not, it is the first that is not
pub pick_unknown : (t : Tables) (picks : List (Option ℕ)) (i : ℕ) (x : Option ℕ) (why : Refusal) → i < length picks → x ≡ get_or picks i x
    → unknown_among t (map (id_key Resource) (picked (take i picks))) ≡ None → Some why ≡ unknown_among t (map (id_key Resource) (option_to_list x))
    → Some why ≡ unknown_among t (map (id_key Resource) (picked picks))
pick_unknown t picks i x why h e n k =
    let front = front_more t picks i x h e n ∙ sym k in
    ap (λ o. option_or o (unknown_picked t (drop (i + 1) picks))) (sym front) ∙ sym (unknown_picked-append t (take (i + 1) picks) (drop (i + 1) picks)) ∙ ap (unknown_picked t) (take-append-drop (i + 1) picks)

-- the first key that is not there is the first of all, or else one of those behind it
pub unknown_cons : (t : Tables) (k : Key) (ks : List Key) → unknown_among t (k ∷ ks) ≡ option_or (unknown_among t (k ∷ [])) (unknown_among t ks)
unknown_cons t k ks = unknown-append t (k ∷ []) ks
