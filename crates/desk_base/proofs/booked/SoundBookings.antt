-- Sound tables stay sound where the bookings of one group give way to new ones.
use Rattle.std.proofs.Common.{◌≡◌, ◌≢◌, ℕ, ◌+◌, ◌<◌, ◌≤◌, Bool, true, false, not, ◌&&◌, ◌==◌, nat_le, List, [], ◌++◌, map, filter, length, ◌⊎◌, inl, inr, refl, sym, ap, ◌∙◌, subst, arith, length-append}
use Rattle.std.proofs.lemmas.Bool.{false≢true, not_from_false, false_from_ne_true, leb-true, le-leb, eqb-true, eq-eqb}
use Rattle.std.proofs.lemmas.List.{append-nil}
use Rattle.std.proofs.lemmas.List.Elements.{filter-append}
use Rattle.std.specs.Prelude.{Contains}
use Rattle.std.specs.Ordering.{nat_cmp}
use Rattle.desk_base.specs.rows.Types.{Tables, Key, GroupRow, BookingRow, CallerRow}
use Rattle.desk_base.specs.declared.rows.tables.Table.TheVariants.{Group as GroupTable, Booking as BookingTable, Caller as CallerTable}
use Rattle.desk_base.specs.declared.rows.tables.AnyRow.TheVariants.{Booking, Caller}
use Rattle.desk_base.specs.declared.asked.rules.TableRule.TheVariants.{Booked, Count}
use Rattle.desk_base.specs.rules.Limits.{revision_limit, serial_limit}
use Rattle.desk_base.specs.rules.TableLimits.{limit_of}
use Rattle.desk_base.specs.rows.Keys.{id_key}
use Rattle.desk_base.specs.rows.Rows.{keys_in, citations_of}
use Rattle.desk_base.specs.meaning.Load.{Fits, ask_of}
use Rattle.desk_base.specs.asked.Refusing.{has_place}
use Rattle.desk_base.specs.changes.Changes.{with_row}
use Rattle.desk_base.specs.asked.Steps.{others_of}
use Rattle.desk_base.specs.rules.Sound.{IsSound, IsBooked, keeps_fields, bookings_of, is_counted}
use Rattle.desk_base.proofs.lists.Members.{IsIn, in-append, in_mapped, in-filter}
use Rattle.desk_base.proofs.lists.Tests.{list_all_at, list_all_from}
use Rattle.desk_base.proofs.meaning.Patterns.{nat_cmp-less, then-less}
use Rattle.desk_base.proofs.lists.Filtered.{all_pass, none_pass, pass_both}
use Rattle.desk_base.proofs.tables.Sounds.{keys_rise, bookings_fit}
use Rattle.desk_base.proofs.puts.Suits.{row_keeps, row_cites}
use Rattle.desk_base.proofs.puts.RoomPuts.{fits_with_quiet}
use Rattle.desk_base.proofs.puts.SoundPuts.{booked_as_before, sound_with_row}
use Rattle.desk_base.proofs.puts.ActPuts.{next_revision, counts_kept}
use Rattle.desk_base.proofs.tables.TakenRows.{Rise, joined_rise}
use Rattle.desk_base.proofs.booked.Rebooked.{SuitBookings, sound_rebooked}
use Rattle.desk_base.proofs.booked.BookedRows.{booked_anew, others_rise}

-- bookings of the group of this number, numbered on, each within the ranges of its fields and with what it names there
pub record AreNew (t : Tables) (id : ℕ) (made : List BookingRow) : Type 0 where
  pub order : Rise Booking made
  pub above : (b : BookingRow) → IsIn b made → t.last_booking < b.id
  pub within : (b : BookingRow) → IsIn b made → b.id ≤ t.last_booking + length made
  pub group : (b : BookingRow) → IsIn b made → b.group ≡ id
  pub field : (b : BookingRow) → IsIn b made → keeps_fields t (Booking b) ≡ true
  pub citation : (b : BookingRow) (k : Key) → IsIn b made → IsIn k (citations_of (Booking b)) → IsIn k (keys_in t k.table)

-- the row of a caller leaves sound tables sound
sound_with_caller : (t : Tables) (x : CallerRow) → IsSound t → has_place t (id_key CallerTable x.caller) ≡ true → IsSound (with_row t (Caller x))
sound_with_caller t x s h =
    sound_with_row t (Caller x) s (record { cited = refl; fields = refl; place = h; unbooked = refl }) (fits_with_quiet t (Caller x) (map ask_of t.bookings) refl (bookings_fit t s))

module _ (t : Tables) (id : ℕ) (made : List BookingRow) (s : IsSound t) (new : AreNew t id made) where
  is_old : (b : BookingRow) → IsIn b (others_of t id) → IsIn b t.bookings
  is_old b i = (in-filter (λ (c : BookingRow). not (c.group == id)) b t.bookings i).0

  old_number : (b : BookingRow) → IsIn b (others_of t id) → b.id ≤ t.last_booking
  old_number b i =
      leb-true b.id t.last_booking (list_all_at (λ (c : BookingRow). nat_le c.id t.last_booking) t.bookings b (counts_kept t (s.keeps Count (id_key BookingTable 0) refl)).2 (is_old b i))

  -- ---- the bookings

  pub all_rise : Rise Booking (others_of t id ++ made)
  all_rise = joined_rise Booking (others_of t id) made (others_rise t id (keys_rise t BookingTable s)) new.order (λ x y i j.
      then-less (nat_cmp x.id y.id) _ (nat_cmp-less x.id y.id (omega (arith, old_number x i, new.above y j))))

  all_suit : length (others_of t id) + length made ≤ limit_of BookingTable → Fits t (map ask_of (others_of t id ++ made)) → SuitBookings t (others_of t id ++ made)
  all_suit few fits = record {
    order = all_rise;
    limit = subst (λ n. n ≤ limit_of BookingTable) (sym (length-append (others_of t id) made)) few;
    field = λ b i. elim (in-append b (others_of t id) made i) [
      | inl j ↦ row_keeps t BookingTable (Booking b) s (in_mapped Booking b t.bookings (is_old b j))
      | inr j ↦ new.field b j
    ];
    citation = λ b k i c. elim (in-append b (others_of t id) made i) [
      | inl j ↦ row_cites t BookingTable (Booking b) k s (in_mapped Booking b t.bookings (is_old b j)) c
      | inr j ↦ new.citation b k j c
    ];
    fits = fits;
  }

  all_counted : t.revision ≢ revision_limit → t.last_booking + length made ≤ serial_limit → is_counted (booked_anew t id made) ≡ true
  all_counted goes_on numbers =
      let c = counts_kept t (s.keeps Count (id_key BookingTable 0) refl) in
      let revision = next_revision t.revision c.0 goes_on in
      let last = le-leb (t.last_booking + length made) serial_limit numbers in
      let each = list_all_from (λ (b : BookingRow). nat_le b.id (t.last_booking + length made)) (others_of t id ++ made) (λ b i. le-leb b.id (t.last_booking + length made) (elim (in-append b (others_of t id) made i) [
        | inl j ↦ omega (arith, old_number b j)
        | inr j ↦ new.within b j
      ])) in
      λ i. revision i && last i && each i

  -- ---- the groups

  module _ (g : GroupRow) where
    -- a group of another number has the bookings that it had
    other_bookings : (g.id == id) ≡ false → filter (λ (b : BookingRow). b.group == g.id) (others_of t id ++ made) ≡ bookings_of t g
    other_bookings h =
        let old = pass_both (λ (b : BookingRow). b.group == g.id) (λ (b : BookingRow). not (b.group == id)) (λ b e. not_from_false (b.group == id) (ap (λ n. n == id) (eqb-true b.group g.id e) ∙ h)) t.bookings in
        let others = none_pass (λ (b : BookingRow). b.group == g.id) made (λ b i. false_from_ne_true (b.group == g.id) (λ e. false≢true (sym h ∙ eq-eqb g.id id (sym (eqb-true b.group g.id e) ∙ new.group b i)))) in
        filter-append (λ (b : BookingRow). b.group == g.id) (others_of t id) made ∙ (λ i. old i ++ others i) ∙ append-nil (bookings_of t g)

    -- the group of this number has the new ones
    pub own_bookings : g.id ≡ id → filter (λ (b : BookingRow). b.group == g.id) (others_of t id ++ made) ≡ made
    own_bookings e =
        let old = none_pass (λ (b : BookingRow). b.group == g.id) (others_of t id) (λ b i. false_from_ne_true (b.group == g.id) (λ f. false≢true (sym (ap not (ap (λ n. b.group == n) (sym e) ∙ f)) ∙ (in-filter (λ (c : BookingRow). not (c.group == id)) b t.bookings i).1))) in
        let own = all_pass (λ (b : BookingRow). b.group == g.id) made (λ b i. eq-eqb b.group g.id (new.group b i ∙ sym e)) in
        filter-append (λ (b : BookingRow). b.group == g.id) (others_of t id) made ∙ (λ i. old i ++ own i)

  -- ---- the tables

  -- with the next revision, the numbers that are given now, and the row of the caller
  pub sound_with_bookings : (x : CallerRow) → has_place t (id_key CallerTable x.caller) ≡ true → t.revision ≢ revision_limit → length (others_of t id) + length made ≤ limit_of BookingTable → t.last_booking + length made ≤ serial_limit → Fits t (map ask_of (others_of t id ++ made))
      → ((g : GroupRow) → Contains t.groups g → g.id ≡ id → (made ≡ []) ⊎ ((u : Tables) → bookings_of u g ≡ made → IsBooked u g))
      → IsSound (with_row (booked_anew t id made) (Caller x))
  sound_with_bookings x place goes_on few numbers fits own =
      sound_with_caller (booked_anew t id made) x
      (sound_rebooked t (others_of t id ++ made) (t.revision + 1) (t.last_booking + length made) s (all_suit few fits) (λ g c. of_group g c (g.id == id) refl) (all_counted goes_on numbers)) place
    where
      of_group : (g : GroupRow) → Contains t.groups g → (b : Bool) → (g.id == id) ≡ b → (bookings_of (booked_anew t id made) g ≡ []) ⊎ IsBooked (booked_anew t id made) g
      of_group g c false h = booked_as_before t (booked_anew t id made) g (other_bookings g h) (s.keeps Booked (id_key GroupTable g.id) g c refl)
      of_group g c true h =
          let e = eqb-true g.id id h in
          elim (own g c e) [
            | inl n ↦ inl (own_bookings g e ∙ n)
            | inr b ↦ inr (b (booked_anew t id made) (own_bookings g e))
          ]
