-- Groups are named by bookings alone, so one of which no booking stands is named by no row.
use Rattle.std.proofs.Common.{◌≡◌, ℕ, true, false, ◌==◌, inl, inr, refl, sym, ap, ◌∙◌, subst}
use Rattle.std.proofs.lemmas.Bool.{false≢true, eq-eqb}
use Rattle.desk_base.specs.declared.rows.tables.Tables.{Tables}
use Rattle.desk_base.specs.declared.rows.tables.Table.{Table}
use Rattle.desk_base.specs.declared.rows.tables.Key.{Key}
use Rattle.desk_base.specs.declared.rows.bookings.BookingRow.{BookingRow}
use Rattle.desk_base.specs.declared.rows.tables.Table.TheVariants.{Group as GroupTable, Booking as BookingTable}
use Rattle.desk_base.specs.declared.rows.tables.AnyRow.TheVariants.{Booking}
use Rattle.desk_base.specs.rows.Keys.{id_key}
use Rattle.desk_base.specs.rows.Rows.{rows_in, key_of, citations_of}
use Rattle.desk_base.specs.asked.Groups.{is_booked}
use Rattle.desk_base.proofs.lists.Members.{IsIn, in-map}
use Rattle.desk_base.proofs.puts.Suits.{own_table}
use Rattle.desk_base.proofs.puts.Overlaps.{none_at}
use Rattle.desk_base.proofs.booked.Rebooked.{is_bookings}
use Rattle.desk_change.specs.Served.{is_master}
use Rattle.desk_change.proofs.Citers.{cited}
use Rattle.desk_change.proofs.removed.FieldsWithout.{IsUncited}

-- the table of bookings is that one
bookings_table : (table : Table) → is_bookings table ≡ true → table ≡ BookingTable
bookings_table BookingTable e = refl
bookings_table _ e = absurd (false≢true e)

group_of_key : (b : BookingRow) (group : ℕ) → IsIn (id_key GroupTable group) (citations_of (Booking b)) → group ≡ b.group
group_of_key b group (inl e) = ap (λ (k : Key). k.a) e
group_of_key b group (inr (inl e)) = absurd (false≢true (ap (λ (k : Key). is_master k.table) e))
group_of_key b group (inr (inr i)) = absurd i

-- a group of which no booking stands is named by no row
pub uncited_group : (t : Tables) (group : ℕ) → is_booked t group ≡ false → IsUncited t (id_key GroupTable group)
uncited_group t group e table x i j =
    let of_booking = bookings_table (key_of x).table (cited x (id_key GroupTable group) j) in
    let b = in-map Booking x t.bookings (subst (λ d. IsIn x (rows_in t d)) of_booking (own_table t table x i)) in
    let same = group_of_key b.0 group (subst (λ y. IsIn (id_key GroupTable group) (citations_of y)) b.2 j) in
    false≢true (sym (none_at (λ (b : BookingRow). b.group == group) t.bookings b.0 e b.1) ∙ eq-eqb b.0.group group (sym same))
