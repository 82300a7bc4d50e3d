-- What well-formed tables say of their bookings: they stand on resources that are there, and are not empty.
use Rattle.std.proofs.Common.{◌≡◌, ℕ, ◌<◌, Bool, true, false, cond, ◌==◌, nat_lt, List, [], ◌∷◌, map, Some, is_some, is_none, inl, inr, refl, sym, ap, ◌∙◌, arith}
use Rattle.std.proofs.lemmas.Bool.Decides.{nat_tests}
use Rattle.std.specs.Prelude.{find}
use Rattle.std.specs.List.{AllByRecursion}
use Rattle.desk_base.specs.declared.rows.tables.Tables.{Tables}
use Rattle.desk_base.specs.declared.rows.tables.Key.{Key}
use Rattle.desk_base.specs.declared.rows.resources.ResourceRow.{ResourceRow}
use Rattle.desk_base.specs.declared.rows.bookings.BookingRow.{BookingRow}
use Rattle.desk_base.specs.declared.rows.tables.Table.TheVariants.{Resource as ResourceTable}
use Rattle.desk_base.specs.declared.rows.tables.AnyRow.TheVariants.{Booking, Resource}
use Rattle.desk_base.specs.rows.Keys.{id_key}
use Rattle.desk_base.specs.rows.Rows.{key_of, keys_in, citations_of}
use Rattle.desk_base.specs.rules.Rules.{first_broken}
use Rattle.desk_base.specs.rules.Fields.{booking_rules}
use Rattle.desk_base.specs.meaning.Capacity.{resource_of}
use Rattle.desk_base.specs.rules.Sound.{AreWellFormed}
use Rattle.desk_base.proofs.lists.Members.{IsIn, all_from, in-map, in_mapped, contains_from_in, in_from_contains}
use Rattle.desk_base.proofs.lists.Tests.{and_left}
use Rattle.desk_base.proofs.meaning.Shapes.{rules_kept, none_from}
use Rattle.desk_load.specs.Parts.{IsAskable}

-- a row that is in the list is found by its number
found_in : (r : ℕ) (x : ResourceRow) (xs : List ResourceRow) → IsIn x xs → x.id ≡ r → is_some (find (λ (y : ResourceRow). y.id == r) xs) ≡ true
found_in r x [] i e = absurd i
found_in r x (y ∷ ys) i e = go (y.id == r) refl i (λ j. found_in r x ys j e)
  where
    same : (a b : ℕ) → a ≡ b → (a == b) ≡ true
    same a b e = grind (arith, nat_tests)

    go : (b : Bool) → (y.id == r) ≡ b → IsIn x (y ∷ ys) → (IsIn x ys → is_some (find (λ (z : ResourceRow). z.id == r) ys) ≡ true) → is_some (cond b (Some y) (find (λ (z : ResourceRow). z.id == r) ys)) ≡ true
    go true f i rest = refl
    go false f (inl g) rest = let h = same y.id r (ap (λ (z : ResourceRow). z.id) (sym g) ∙ e) in let k : false ≡ true = sym f ∙ h in cc
    go false f (inr j) rest = rest j

booking_there : (t : Tables) (b : BookingRow) → AreWellFormed t → IsIn b t.bookings → is_some (resource_of t b.resource) ≡ true
booking_there t b w i =
    let c = w.citation (key_of (Booking b)) (Booking b) (id_key ResourceTable b.resource) (contains_from_in (map Booking t.bookings) (Booking b) (in_mapped Booking b t.bookings i)) refl (contains_from_in (citations_of (Booking b)) (id_key ResourceTable b.resource) (inr (inl refl))) in
    let k = in-map key_of (id_key ResourceTable b.resource) (map Resource t.resources) (in_from_contains (keys_in t ResourceTable) (id_key ResourceTable b.resource) c) in
    let x = in-map Resource k.0 t.resources k.1 in
    let e : b.resource ≡ x.0.id = ap (λ (k : Key). k.a) (k.2 ∙ ap key_of x.2) in
    found_in b.resource x.0 t.resources x.1 (sym e)

less_is : (a b : ℕ) → nat_lt a b ≡ true → a < b
less_is a b e = grind (arith, nat_tests)

booking_long : (t : Tables) (b : BookingRow) → AreWellFormed t → IsIn b t.bookings → b.from < b.to
booking_long t b w i =
    let kept = w.field (key_of (Booking b)) (Booking b) (contains_from_in (map Booking t.bookings) (Booking b) (in_mapped Booking b t.bookings i)) refl in
    let rules = rules_kept (booking_rules b) (none_from (first_broken (booking_rules b)) (and_left (is_none (first_broken (booking_rules b))) true kept)) in
    less_is b.from b.to rules.0

pub standing_askable : (t : Tables) → AreWellFormed t → AllByRecursion (IsAskable t) t.bookings
standing_askable t w = all_from (IsAskable t) t.bookings (λ b i. record { there = booking_there t b w i; not_empty = booking_long t b w i })
