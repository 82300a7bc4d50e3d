-- Leaves are read again as they were written.
use Rattle.std.proofs.Common.{◌≡◌, ℕ, suc, ◌≤◌, true, List, [], ◌∷◌, ◌++◌, map, All, Option, Some, None, Result, Ok, codes, refl, arith}
use Rattle.std.proofs.lemmas.List.Elements.{All-weaker}
use Rattle.serde_json.specs.Data.{Data}
use Rattle.serde_json.specs.Find.{get}
use Rattle.desk_base.specs.declared.asked.rules.Field.{Field}
use Rattle.desk_base.specs.declared.rows.groups.Leaf.{Leaf}
use Rattle.desk_base.specs.declared.rows.resources.Kind.{Kind}
use Rattle.desk_base.specs.declared.values.minutes.Window.{Window}
use Rattle.desk_json.specs.declared.faults.BodyError.{BodyError}
use Rattle.desk_json.specs.Faults.{◌>>=◌}
use Rattle.desk_json.specs.Decimals.{IsId}
use Rattle.desk_json.specs.Values.{whole_number}
use Rattle.desk_json.specs.Reading.{greatest_u32, id_in, kind_in}
use Rattle.desk_json.specs.Lists.{list_in, rating_in, window_in}
use Rattle.desk_json.specs.Forms.{under, under_or, found_or, has_only}
use Rattle.desk_json.specs.TreeReading.{amounts_form, kinds_form, roles_form, characteristics_form, territories_form, units_form, required_form, restricted_form, traits_form, places_form, choices_form, own_window_form, leaf_form, leaf_in}
use Rattle.desk_kept.specs.Values.{kind_data}
use Rattle.desk_kept.specs.Leaves.{filled, rating_data, own_window, first_entries, middle_entries, last_entries, leaf_data}
use Rattle.desk_kept.specs.TypedGroups.{IsRating, IsWindowOrNone, IsLeaf}
use Rattle.desk_kept.proofs.KeptValues.{IsKept, u32_kept, id_kept, kind_kept, list_kept, rating_kept, window_kept}
use Rattle.desk_kept.proofs.Present.{Entries, look, first_of_two, get_present, among_present, present_rises, IsFine, AreFine, present_fine}

abbrev entries_of : Leaf → Entries
entries_of l = first_entries l ++ middle_entries l ++ last_entries l

get_leaf : (l : Leaf) (k : List ℕ) → get k (leaf_data l) ≡ look k (entries_of l)
get_leaf l k = get_present k (entries_of l)

-- ---- lists that are there where they are not empty

module _ {X : Type 0} (read : Field → Data → Result X BodyError) (n : ℕ) (data_of : X → Data) where
  filled_reads : (xs : List X) → All (λ x. IsKept read n (data_of x) x) xs → (f : Field) → found_or [] f (list_in read) (first_of_two (filled (map data_of xs)) None) ≡ Ok xs
  filled_reads [] h f = refl
  filled_reads (x ∷ xs) h f = (list_kept read n data_of (x ∷ xs) h).reads f

  filled_fine : (xs : List X) → All (λ x. IsKept read n (data_of x) x) xs → IsFine (suc n) (filled (map data_of xs))
  filled_fine [] h = tt
  filled_fine (x ∷ xs) h = let list = list_kept read n data_of (x ∷ xs) h in (list.sound, list.deep)

ids_each : (ids : List ℕ) → All IsId ids → All (λ n. IsKept id_in 0 (whole_number n) n) ids
ids_each ids h = All-weaker IsId (λ n. IsKept id_in 0 (whole_number n) n) id_kept ids h

ratings_each : (cs : List (ℕ × ℕ)) → All IsRating cs → All (λ c. IsKept rating_in 1 (rating_data c) c) cs
ratings_each cs h = All-weaker IsRating (λ c. IsKept rating_in 1 (rating_data c) c) rating_kept cs h

kinds_each : (ks : List Kind) → All (λ k. IsKept kind_in 0 (kind_data k) k) ks
kinds_each ks = λ i d within. kind_kept _

-- ---- the parts of a leaf

module _ (l : Leaf) (is : IsLeaf l) (f : Field) where
  amounts : (amounts_form f).read (leaf_data l) ≡ Ok (l.duration, l.offset, l.effort)
  unfolding amounts_form under under_or
  amounts =
      rw (get_leaf l (codes "duration"), (u32_kept l.duration is.duration).reads f, get_leaf l (codes "offset"), (u32_kept l.offset is.offset).reads f, get_leaf l (codes "effort"), (u32_kept l.effort is.effort).reads f)
      refl

  kinds : (kinds_form f).read (leaf_data l) ≡ Ok l.kinds
  unfolding kinds_form under_or
  kinds = rw (get_leaf l (codes "kinds")) (filled_reads kind_in 0 kind_data l.kinds (kinds_each l.kinds) f)

  roles : (roles_form f).read (leaf_data l) ≡ Ok l.roles
  unfolding roles_form under_or
  roles = rw (get_leaf l (codes "roles")) (filled_reads id_in 0 whole_number l.roles (ids_each l.roles is.roles) f)

  characteristics : (characteristics_form f).read (leaf_data l) ≡ Ok l.characteristics
  unfolding characteristics_form under_or
  characteristics = rw (get_leaf l (codes "characteristics")) (filled_reads rating_in 1 rating_data l.characteristics (ratings_each l.characteristics is.characteristics) f)

  territories : (territories_form f).read (leaf_data l) ≡ Ok l.territories
  unfolding territories_form under_or
  territories = rw (get_leaf l (codes "territories")) (filled_reads id_in 0 whole_number l.territories (ids_each l.territories is.territories) f)

  units : (units_form f).read (leaf_data l) ≡ Ok l.units
  unfolding units_form under_or
  units = rw (get_leaf l (codes "units")) (filled_reads id_in 0 whole_number l.units (ids_each l.units is.units) f)

  required : (required_form f).read (leaf_data l) ≡ Ok l.required
  unfolding required_form under_or
  required = rw (get_leaf l (codes "required")) (filled_reads id_in 0 whole_number l.required (ids_each l.required is.required) f)

  restricted : (restricted_form f).read (leaf_data l) ≡ Ok l.restricted
  unfolding restricted_form under_or
  restricted = rw (get_leaf l (codes "restricted")) (filled_reads id_in 0 whole_number l.restricted (ids_each l.restricted is.restricted) f)

  window_reads : (w : Option Window) → IsWindowOrNone w → found_or None f (λ g d. window_in g d >>= λ w. Ok (Some w)) (first_of_two (own_window w) None) ≡ Ok w
  window_reads (Some w) h = rw ((window_kept w h).reads f) refl
  window_reads None h = refl

  own : (own_window_form f).read (leaf_data l) ≡ Ok l.window
  unfolding own_window_form under_or
  own = rw (get_leaf l (codes "window")) (window_reads l.window is.window)

  read_all : (leaf_form f).read (leaf_data l) ≡ Ok l
  unfolding leaf_form traits_form places_form choices_form
  read_all = rw (amounts, kinds, roles, characteristics, territories, units, required, restricted, own) refl

  among : has_only (leaf_form f).names (leaf_data l) ≡ true
  unfolding leaf_form amounts_form kinds_form roles_form characteristics_form territories_form units_form required_form restricted_form traits_form places_form choices_form own_window_form
  among = among_present (leaf_form f).names (entries_of l) refl

  leaf_reads : leaf_in f (leaf_data l) ≡ Ok l
  unfolding leaf_in
  leaf_reads = rw (read_all, among) refl

window_fine : (w : Option Window) → IsWindowOrNone w → IsFine 1 (own_window w)
window_fine (Some w) h = let kept = window_kept w h in (kept.sound, kept.deep)
window_fine None h = tt

weaker : (o : Option Data) → IsFine 1 o → IsFine 2 o
weaker (Some d) h = (h.0, omega (arith, h.1))
weaker None h = tt

ids_fine : (ids : List ℕ) → All IsId ids → IsFine 2 (filled (map whole_number ids))
ids_fine ids h = weaker (filled (map whole_number ids)) (filled_fine id_in 0 whole_number ids (ids_each ids h))

number_fine : (n : ℕ) → n ≤ greatest_u32 → IsFine 2 (Some (whole_number n))
number_fine n h = (omega (arith, h), omega arith)

leaf_fine : (l : Leaf) → IsLeaf l → AreFine 2 (entries_of l)
leaf_fine l is = (
  refl,
  filled_fine rating_in 1 rating_data l.characteristics (ratings_each l.characteristics is.characteristics),
  (
    refl,
    number_fine l.duration is.duration,
    (
      refl,
      number_fine l.effort is.effort,
      (
        refl,
        weaker (filled (map kind_data l.kinds)) (filled_fine kind_in 0 kind_data l.kinds (kinds_each l.kinds)),
        (
          refl,
          number_fine l.offset is.offset,
          (
            refl,
            ids_fine l.required is.required,
            (
              refl,
              ids_fine l.restricted is.restricted,
              (
                refl,
                ids_fine l.roles is.roles,
                (
                  refl,
                  ids_fine l.territories is.territories,
                  (
                    refl,
                    ids_fine l.units is.units,
                    (
                      refl,
                      weaker (own_window l.window) (window_fine l.window is.window),
                      tt,
                    ),
                  ),
                ),
              ),
            ),
          ),
        ),
      ),
    ),
  ),
)

pub leaf_kept : (l : Leaf) → IsLeaf l → IsKept leaf_in 3 (leaf_data l) l
leaf_kept l is =
    let fine = present_fine 2 (entries_of l) (leaf_fine l is) in
    record { reads = λ f. leaf_reads l is f; sound = (fine.0, present_rises (entries_of l) refl); deep = omega (arith, fine.1) }
