-- The tables after a group is booked, moved or cancelled: its own bookings are gone, and the new ones stand after all others.
use Rattle.std.proofs.Common.{◌≡◌, ℕ, ◌+◌, false, not, ◌==◌, List, [], ◌∷◌, ◌++◌, map, length, Option, refl, sym, ap, ◌∙◌}
use Rattle.std.proofs.lemmas.Bool.{false≢true, not-true, not_from_false, false_from_ne_true}
use Rattle.std.proofs.lemmas.List.Sums.{fold_push}
use Rattle.desk_base.specs.rows.Types.{Tables, BookingRow, CallerRow}
use Rattle.desk_base.specs.declared.rows.tables.Table.TheVariants.{Booking as BookingTable}
use Rattle.desk_base.specs.declared.rows.tables.AnyRow.TheVariants.{Booking, Caller}
use Rattle.desk_base.specs.declared.rows.bookings.Receipt.{Receipt}
use Rattle.desk_base.specs.declared.asked.acts.Act.TheVariants as act
use Rattle.desk_base.specs.declared.asked.acts.Call.{Call}
use Rattle.desk_base.specs.rows.Keys.{id_key}
use Rattle.desk_base.specs.rows.Rows.{key_of}
use Rattle.desk_base.specs.changes.Changes.{without_one, with_one, with_row, with_rows, without_keys, with_change}
use Rattle.desk_base.specs.asked.Groups.{booked_for, is_booked}
use Rattle.desk_base.specs.asked.Acts.{new_bookings, receipt_of, after_act}
use Rattle.desk_base.specs.asked.Steps.{others_of}
use Rattle.desk_base.proofs.lists.Members.{IsIn, in-filter, in_filtered}
use Rattle.desk_base.proofs.puts.Overlaps.{none_at}
use Rattle.desk_base.proofs.lists.Filtered.{all_pass}
use Rattle.desk_base.proofs.tables.KeyRises.{rise-filter}
use Rattle.desk_base.proofs.tables.TakenRows.{Rise, one_row, same_rows, taken, in-taken, in_taken, taken_rise, put, put_after}
use Rattle.desk_base.proofs.booked.Rebooked.{rebooked}
use Rattle.desk_base.proofs.puts.ActPuts.{counted}

-- the tables with the bookings of the groups of other numbers and these, the next revision, and the numbers that are given then
abbrev pub booked_anew : Tables → ℕ → List BookingRow → Tables
booked_anew t id made = rebooked t (others_of t id ++ made) (t.revision + 1) (t.last_booking + length made)

-- ---- one change

without_bookings : (t : Tables) (gone : List BookingRow) → without_keys t (map (λ (b : BookingRow). id_key BookingTable b.id) gone) ≡ record t { bookings = taken Booking t.bookings gone }
without_bookings t [] = refl
without_bookings t (b ∷ gone) = without_bookings (record t { bookings = without_one (λ y. key_of (Booking y)) (id_key BookingTable b.id) t.bookings }) gone

with_bookings : (t : Tables) (made : List BookingRow) → with_rows t (map Booking made) ≡ record t { bookings = put Booking t.bookings made }
with_bookings t [] = refl
with_bookings t (b ∷ made) = with_bookings (record t { bookings = with_one (λ y. key_of (Booking y)) b t.bookings }) made

-- a change that takes bookings out, and puts others and the row of a caller
rebooked_by : (t : Tables) (gone made : List BookingRow) (x : CallerRow) (revision last : ℕ)
    → with_change t (record { puts = map Booking made ++ Caller x ∷ []; removes = map (λ (b : BookingRow). id_key BookingTable b.id) gone; revision = revision; last_booking = last })
    ≡ with_row (rebooked t (put Booking (taken Booking t.bookings gone) made) revision last) (Caller x)
unfolding with_change
rebooked_by t gone made x revision last =
    let out = without_keys t (map (λ (b : BookingRow). id_key BookingTable b.id) gone) in
    let rows = ap (λ u. with_rows u (map Booking made)) (without_bookings t gone) ∙ with_bookings (record t { bookings = taken Booking t.bookings gone }) made in
    ap (λ u. counted u revision last) (fold_push with_row out (map Booking made) (Caller x) ∙ ap (λ u. with_row u (Caller x)) rows)

-- ---- the bookings of the other groups

-- a group that has no booking is none of those that have
pub others_unbooked : (t : Tables) (id : ℕ) → is_booked t id ≡ false → others_of t id ≡ t.bookings
others_unbooked t id e = all_pass (λ (b : BookingRow). not (b.group == id)) t.bookings (λ b i. not_from_false (b.group == id) (none_at (λ (c : BookingRow). c.group == id) t.bookings b e i))

module _ (t : Tables) (id : ℕ) (rise : Rise Booking t.bookings) where
  pub others_rise : Rise Booking (others_of t id)
  others_rise = rise-filter Booking (λ (b : BookingRow). not (b.group == id)) t.bookings rise

  not_taken : (b : BookingRow) → IsIn b (taken Booking t.bookings (booked_for t id)) → IsIn b (others_of t id)
  not_taken b i =
      let h = in-taken Booking b t.bookings (booked_for t id) i in
      let other = false_from_ne_true (b.group == id) (λ e. h.1 b (in_filtered (λ (c : BookingRow). c.group == id) b t.bookings h.0 e) refl) in
      in_filtered (λ (c : BookingRow). not (c.group == id)) b t.bookings h.0 (not_from_false (b.group == id) other)

  still_there : (b : BookingRow) → IsIn b (others_of t id) → IsIn b (taken Booking t.bookings (booked_for t id))
  still_there b i =
      let h = in-filter (λ (c : BookingRow). not (c.group == id)) b t.bookings i in
      in_taken Booking b t.bookings (booked_for t id) h.0 (λ z j e.
      let g = in-filter (λ (c : BookingRow). c.group == id) z t.bookings j in
      let same = one_row Booking t.bookings b z rise h.0 g.0 e in
      false≢true (sym (not-true (b.group == id) h.1) ∙ ap (λ (c : BookingRow). c.group == id) same ∙ g.1))

  others-taken : taken Booking t.bookings (booked_for t id) ≡ others_of t id
  others-taken = same_rows Booking (taken Booking t.bookings (booked_for t id)) (others_of t id) (taken_rise Booking t.bookings (booked_for t id) rise) others_rise not_taken still_there

  placed : (made : List BookingRow) → Rise Booking (others_of t id ++ made) → put Booking (taken Booking t.bookings (booked_for t id)) made ≡ others_of t id ++ made
  placed made h = ap (λ l. put Booking l made) others-taken ∙ put_after Booking (others_of t id) made h

  -- ---- the acts

  module _ (call : Call) where
    -- the row that a call leaves
    abbrev pub row_after : Receipt → CallerRow
    row_after receipt = record { caller = call.caller; last = call.number; receipt = receipt }

    pub after_move : (start : ℕ) (picks : List (Option ℕ)) (made : List BookingRow) → new_bookings t id start picks ≡ made → Rise Booking (others_of t id ++ made)
        → after_act t call (act.MoveGroup id start picks) ≡ with_row (booked_anew t id made) (Caller (row_after (receipt_of t (act.MoveGroup id start picks))))
    unfolding after_act
    after_move start picks made e h =
        let x = row_after (receipt_of t (act.MoveGroup id start picks)) in
        let own = booked_for t id in
        let new = new_bookings t id start picks in
        rebooked_by t own new x (t.revision + 1) (t.last_booking + length new)
        ∙ ap (λ m. with_row (rebooked t (put Booking (taken Booking t.bookings own) m) (t.revision + 1) (t.last_booking + length m)) (Caller x)) e
        ∙ ap (λ l. with_row (rebooked t l (t.revision + 1) (t.last_booking + length made)) (Caller x)) (placed made h)

    pub after_book : (start : ℕ) (picks : List (Option ℕ)) (made : List BookingRow) → is_booked t id ≡ false → new_bookings t id start picks ≡ made → Rise Booking (others_of t id ++ made)
        → after_act t call (act.BookGroup id start picks) ≡ with_row (booked_anew t id made) (Caller (row_after (receipt_of t (act.BookGroup id start picks))))
    unfolding after_act
    after_book start picks made open_group e h =
        let x = row_after (receipt_of t (act.BookGroup id start picks)) in
        let new = new_bookings t id start picks in
        let at_end = ap (λ l. put Booking l made) (sym (others_unbooked t id open_group)) ∙ put_after Booking (others_of t id) made h in
        rebooked_by t [] new x (t.revision + 1) (t.last_booking + length new)
        ∙ ap (λ m. with_row (rebooked t (put Booking t.bookings m) (t.revision + 1) (t.last_booking + length m)) (Caller x)) e
        ∙ ap (λ l. with_row (rebooked t l (t.revision + 1) (t.last_booking + length made)) (Caller x)) at_end

    pub after_cancel : Rise Booking (others_of t id ++ []) → after_act t call (act.CancelGroup id) ≡ with_row (booked_anew t id []) (Caller (row_after (receipt_of t (act.CancelGroup id))))
    unfolding after_act
    after_cancel h =
        let x = row_after (receipt_of t (act.CancelGroup id)) in
        rebooked_by t (booked_for t id) [] x (t.revision + 1) (t.last_booking + length {A = BookingRow} [])
        ∙ ap (λ l. with_row (rebooked t l (t.revision + 1) (t.last_booking + length {A = BookingRow} [])) (Caller x)) (placed [] h)
