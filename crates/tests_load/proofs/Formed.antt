-- Well-formed tables stay so with a booking, whether or not there is room for it.
use Rattle.std.proofs.Common.{◌≡◌, ℕ, ◌≤◌, Bool, true, false, cond, ◌&&◌, ◌==◌, nat_le, nat_lt, List, [], ◌∷◌, ◌++◌, map, length, Some, None, inl, inr, refl, sym, ap, ◌∙◌, subst, arith, is_none}
use Rattle.std.proofs.lemmas.Bool.{false≢true}
use Rattle.std.proofs.lemmas.Bool.Decides.{nat_tests}
use Rattle.std.proofs.lemmas.List.{length-map}
use Rattle.std.specs.Prelude.{IsSome}
use Rattle.std.specs.List.Sorted.{IsStrictlySortedBy}
use Rattle.std.specs.declared.cmp.Ordering.TheVariants.{Less}
use Rattle.desk_base.specs.declared.rows.tables.Tables.{Tables}
use Rattle.desk_base.specs.declared.rows.tables.Table.{Table}
use Rattle.desk_base.specs.declared.rows.tables.AnyRow.{AnyRow}
use Rattle.desk_base.specs.declared.rows.tables.Key.{Key}
use Rattle.desk_base.specs.declared.rows.bookings.BookingRow.{BookingRow}
use Rattle.desk_base.specs.declared.rows.resources.ResourceRow.{ResourceRow}
use Rattle.desk_base.specs.declared.rows.groups.GroupRow.{GroupRow}
use Rattle.desk_base.specs.declared.rows.tables.Table.TheVariants.{Resource as ResourceTable, Group as GroupTable, Booking as BookingTable}
use Rattle.desk_base.specs.declared.rows.tables.AnyRow.TheVariants.{Zone, Resource, Group, Booking}
use Rattle.desk_base.specs.rows.Keys.{key_cmp, id_key}
use Rattle.desk_base.specs.rows.Rows.{rows_in, key_of, keys_in, citations_of}
use Rattle.desk_base.specs.rules.Limits.{effort_limit}
use Rattle.desk_base.specs.rules.Rules.{first_broken}
use Rattle.desk_base.specs.meaning.Capacity.{resource_of}
use Rattle.desk_base.specs.asked.Groups.{group_of}
use Rattle.desk_base.specs.changes.Changes.{with_one, with_row}
use Rattle.desk_base.specs.rules.Sound.{AreWellFormed, taken_limit_of, keeps_fields, Keeps}
use Rattle.desk_base.specs.declared.asked.rules.TableRule.TheVariants.{Order, Field, Citation}
use Rattle.desk_base.specs.declared.asked.rules.Field.{Field as FieldName}
use Rattle.desk_base.specs.declared.asked.rules.Field.TheVariants.{To, Effort}
use Rattle.desk_base.proofs.lists.Members.{IsIn, in_mapped, in_from_contains, contains_from_in}
use Rattle.desk_base.proofs.lists.Tests.{find_cases, and_both}
use Rattle.desk_base.proofs.tables.Sounds.{keys_in_order}
use Rattle.desk_base.proofs.tables.WithOne.{length_more}
use Rattle.desk_base.proofs.tables.RowPuts.{rows_cases, in_put, key_stays, keys_rise_put}
use Rattle.tests_load.specs.Placed.{IsPlaced}

adjacent : (before after : List Key) (j k : Key) → IsStrictlySortedBy key_cmp (before ++ j ∷ k ∷ after) → key_cmp j k ≡ Less
unfolding IsStrictlySortedBy
adjacent [] after j k s = s.0.0
adjacent (x ∷ before) after j k s = adjacent before after j k s.1

equal : (m n : ℕ) → (m == n) ≡ true → m ≡ n
equal m n e = grind (arith, nat_tests)

resource_there : (t : Tables) (r : ℕ) → IsSome (resource_of t r) → IsIn (id_key ResourceTable r) (keys_in t ResourceTable)
resource_there t r s = elim (find_cases (λ (x : ResourceRow). x.id == r) t.resources) [
  | inl e ↦ absurd (false≢true (subst IsSome e s))
  | inr f ↦ subst (λ n. IsIn (id_key ResourceTable n) (keys_in t ResourceTable)) (equal f.0.id r f.2) (in_mapped key_of (Resource f.0) (map Resource t.resources) (in_mapped Resource f.0 t.resources f.1))
]

group_there : (t : Tables) (g : ℕ) → IsSome (group_of t g) → IsIn (id_key GroupTable g) (keys_in t GroupTable)
group_there t g s = elim (find_cases (λ (x : GroupRow). x.id == g) t.groups) [
  | inl e ↦ absurd (false≢true (subst IsSome e s))
  | inr f ↦ subst (λ n. IsIn (id_key GroupTable n) (keys_in t GroupTable)) (equal f.0.id g f.2) (in_mapped key_of (Group f.0) (map Group t.groups) (in_mapped Group f.0 t.groups f.1))
]

module _ (t : Tables) (b : BookingRow) (w : AreWellFormed t) (p : IsPlaced t b) where
  abbrev u : Tables
  u = with_row t (Booking b)

  order : (k : Key) → Keeps Order u k
  order k = λ before after j e. adjacent before after j k (subst (IsStrictlySortedBy key_cmp) e (keys_rise_put t (Booking b) (λ table. keys_in_order t table w.order) k.table))

  few : length (with_one key_of (Booking b) (rows_in t BookingTable)) ≤ taken_limit_of BookingTable
  few = let l = length_more key_of (Booking b) (rows_in t BookingTable) in let m = length-map t.bookings Booking in omega (arith, l, m, p.few)

  limit : (table : Table) → length (rows_in u table) ≤ taken_limit_of table
  limit table = elim (rows_cases t (Booking b) table) [
    | inl e ↦ subst (λ l. length l ≤ taken_limit_of table) (sym e.1) (subst (λ d. length (with_one key_of (Booking b) (rows_in t d)) ≤ taken_limit_of d) e.0 few)
    | inr e ↦ subst (λ l. length l ≤ taken_limit_of table) (sym e) (w.limit table)
  ]

  same_fields : (row : AnyRow) → keeps_fields u row ≡ keeps_fields t row
  same_fields (Zone x) = refl
  same_fields _ = refl

  kept : (a c : Bool) → a ≡ true → c ≡ true → (is_none (first_broken {R = FieldName} ((a, To) ∷ (c, Effort) ∷ [])) && true) ≡ true
  kept true c e f = ap (λ x. is_none (cond x None (Some Effort)) && true) f
  kept false c e f = absurd (false≢true e)

  own_fields : keeps_fields t (Booking b) ≡ true
  own_fields = kept (nat_lt b.from b.to) (nat_le 1 b.effort && nat_le b.effort effort_limit) (let l = p.not_empty in grind (arith, nat_tests)) (and_both (nat_le 1 b.effort) (nat_le b.effort effort_limit) (let l = p.some in grind (arith, nat_tests)) (let l = p.light in grind (arith, nat_tests)))

  field : (k : Key) → Keeps Field u k
  field k = λ row c e. elim (in_put t (Booking b) k.table row (in_from_contains (rows_in u k.table) row c)) [
    | inl same ↦ same_fields row ∙ ap (keeps_fields t) same ∙ own_fields
    | inr old ↦ same_fields row ∙ w.field k row (contains_from_in (rows_in t k.table) row old) e
  ]

  cited : (c : Key) → IsIn c (citations_of (Booking b)) → IsIn c (keys_in t c.table)
  cited c (inl e) = subst (λ k. IsIn k (keys_in t k.table)) (sym e) (group_there t b.group p.group)
  cited c (inr (inl e)) = subst (λ k. IsIn k (keys_in t k.table)) (sym e) (resource_there t b.resource p.resource)
  cited c (inr (inr i)) = absurd i

  citation : (k : Key) → Keeps Citation u k
  citation k = λ row c r e i. contains_from_in (keys_in u c.table) c (key_stays t (Booking b) c.table c (elim (in_put t (Booking b) k.table row (in_from_contains (rows_in u k.table) row r)) [
    | inl same ↦ cited c (subst (λ y. IsIn c (citations_of y)) same (in_from_contains (citations_of row) c i))
    | inr old ↦ in_from_contains (keys_in t c.table) c (w.citation k row c (contains_from_in (rows_in t k.table) row old) e i)
  ]))

  pub formed_with_booking : AreWellFormed (with_row t (Booking b))
  formed_with_booking = record { order = order; limit = limit; field = field; citation = citation }
