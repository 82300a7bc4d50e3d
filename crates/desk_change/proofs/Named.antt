-- Rows of a number, and what names it.
use Rattle.std.proofs.Common.{◌≡◌, ℕ, false, ◌==◌, List, [], map, Some, None, inl, inr, refl, sym, ◌∙◌, subst}
use Rattle.std.proofs.lemmas.Bool.{false_from_ne_true, eqb-true, eq-eqb}
use Rattle.std.specs.Prelude.{filter, find, Contains}
use Rattle.desk_base.specs.declared.rows.tables.Tables.{Tables}
use Rattle.desk_base.specs.declared.rows.tables.AnyRow.{AnyRow}
use Rattle.desk_base.specs.declared.rows.resources.ResourceRow.{ResourceRow}
use Rattle.desk_base.specs.declared.rows.resources.MemberRow.{MemberRow}
use Rattle.desk_base.specs.declared.rows.bookings.BookingRow.{BookingRow}
use Rattle.desk_base.specs.declared.rows.tables.Table.TheVariants.{Resource as ResourceTable}
use Rattle.desk_base.specs.declared.rows.tables.AnyRow.TheVariants.{Member, Booking}
use Rattle.desk_base.specs.rows.Keys.{id_key}
use Rattle.desk_base.specs.rows.Rows.{rows_in, key_of, keys_in, citations_of}
use Rattle.desk_base.specs.rules.Sound.{AreWellFormed}
use Rattle.desk_base.proofs.lists.Members.{IsIn, in_mapped, in_from_contains, contains_from_in}
use Rattle.desk_base.proofs.lists.Filtered.{none_pass}
use Rattle.desk_base.proofs.lists.Bounds.{found_passes}
use Rattle.desk_base.proofs.puts.KindPuts.{none_found, resource_found}

-- the row that is found by a number has it
pub found_number : {A : Type 0} (number : A → ℕ) (n : ℕ) (xs : List A) (x : A) → Some x ≡ find (λ y. number y == n) xs → number x ≡ n
found_number number n xs x e = eqb-true (number x) n (found_passes (λ y. number y == n) xs x (sym e))

-- where no resource has a number, none of the number is named
absent : (t : Tables) (r n : ℕ) → None ≡ find (λ (y : ResourceRow). y.id == r) t.resources → Contains (keys_in t ResourceTable) (id_key ResourceTable n) → (n == r) ≡ false
absent t r n e c = false_from_ne_true (n == r) (λ f.
    let y = resource_found t n (in_from_contains (keys_in t ResourceTable) (id_key ResourceTable n) c) in
    none_found (λ (y : ResourceRow). y.id == r) t.resources y.0 (sym e) y.1 (eq-eqb y.0.id r (y.2 ∙ eqb-true n r f)))

-- nor do rows have it that name the resource of their number
none_of : {R : Type 0} (any : R → AnyRow) (number : R → ℕ) (rows : List R) (t : Tables) (r : ℕ) → AreWellFormed t → None ≡ find (λ (y : ResourceRow). y.id == r) t.resources
    → ((x : R) → map any rows ≡ rows_in t (key_of (any x)).table) → ((x : R) → IsIn (id_key ResourceTable (number x)) (citations_of (any x))) → filter (λ x. number x == r) rows ≡ []
none_of any number rows t r w e own names =
    none_pass (λ x. number x == r) rows (λ x i. absent t r (number x) e
    (w.citation (key_of (any x)) (any x) (id_key ResourceTable (number x)) (subst (λ l. Contains l (any x)) (own x) (contains_from_in (map any rows) (any x) (in_mapped any x rows i))) refl (contains_from_in (citations_of (any x)) (id_key ResourceTable (number x)) (names x))))

pub no_memberships : (t : Tables) (r : ℕ) → AreWellFormed t → None ≡ find (λ (y : ResourceRow). y.id == r) t.resources → filter (λ (x : MemberRow). x.member == r) t.members ≡ []
no_memberships t r w e = none_of Member (λ (x : MemberRow). x.member) t.members t r w e (λ x. refl) (λ x. inr (inl refl))

pub no_bookings : (t : Tables) (r : ℕ) → AreWellFormed t → None ≡ find (λ (y : ResourceRow). y.id == r) t.resources → filter (λ (x : BookingRow). x.resource == r) t.bookings ≡ []
no_bookings t r w e = none_of Booking (λ (x : BookingRow). x.resource) t.bookings t r w e (λ x. refl) (λ x. inr (inl refl))
