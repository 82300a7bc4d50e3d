-- A group that is put: its list among those of the others.
use Rattle.std.proofs.Common.{◌≡◌, ℕ, ◌<◌, ◌≤◌, Bool, true, false, ◌==◌, nat_lt, List, [], map, length, Some, None, is_some, ◌⊎◌, inl, inr, pos, refl, sym, ap, ◌∙◌, subst, arith}
use Rattle.std.proofs.lemmas.Bool.{false≢true}
use Rattle.std.specs.Prelude.{filter, find, Contains}
use Rattle.std.specs.Ordering.{nat_cmp}
use Rattle.std.specs.List.{list_any, insert}
use Rattle.std.specs.List.Sorted.{IsStrictlySortedBy, IsPartitionPoint}
use Rattle.desk_base.specs.declared.rows.tables.Tables.{Tables}
use Rattle.desk_base.specs.declared.rows.tables.Key.{Key}
use Rattle.desk_base.specs.declared.rows.tables.AnyRow.TheVariants.{Group}
use Rattle.desk_base.specs.declared.rows.groups.GroupRow.{GroupRow}
use Rattle.desk_base.specs.declared.rows.bookings.BookingRow.{BookingRow}
use Rattle.desk_base.specs.rows.Rows.{key_of}
use Rattle.desk_base.specs.rows.Ranges.{owns}
use Rattle.desk_base.specs.rules.Sound.{AreWellFormed}
use Rattle.desk_base.specs.meaning.Load.{ask_of}
use Rattle.desk_base.specs.changes.Changes.{with_row, with_one}
use Rattle.desk_base.proofs.lists.Members.{IsIn, all_at, in_from_contains}
use Rattle.desk_base.proofs.lists.Filtered.{none_pass}
use Rattle.desk_member.specs.Memberships.{of_member}
use Rattle.desk_load.specs.declared.weights.Weight.{Weight}
use Rattle.desk_load.specs.declared.lists.BookingList.{BookingList}
use Rattle.desk_load.specs.declared.changes.turns.Turn.TheVariants.{Comes}
use Rattle.desk_load.specs.Parted.{IndexParts}
use Rattle.desk_load.specs.Index.{AreWeightsOf, group_numbers}
use Rattle.desk_load.specs.Lists.{lists_of}
use Rattle.desk_load.specs.Stages.{IsStage}
use Rattle.desk_load.proofs.Numbers.{map_map, map_itself}
use Rattle.desk_load.proofs.Keeping.{weight_same}
use Rattle.desk_load.proofs.Listing.{lists_climb}
use Rattle.desk_load.proofs.Reading.{group_named}
use Rattle.desk_load.proofs.Reweighed.{is_found, are_whole, raised_weights}
use Rattle.desk_load.proofs.Raised.{raised_none}
use Rattle.desk_load.proofs.Renumbered.{numbers_with, equal, named_in, numbers_stay, numbers_rise_with, number_kept, group_below, ids_put, absent_number, list_of, inserted_lists}

abbrev group_key : GroupRow → Key
group_key g = key_of (Group g)

-- the numbers of groups with one more
pub numbers_of : (g : GroupRow) (gs : List GroupRow) → map (λ (y : GroupRow). y.id) (with_one group_key g gs) ≡ numbers_with g.id (map (λ (y : GroupRow). y.id) gs)
numbers_of g gs = ids_put (λ (y : GroupRow). y.id) group_key g (λ y. group_below y.id g.id) (λ y. group_below g.id y.id) gs

-- ---- stages

abbrev with_group : Tables → GroupRow → Tables
with_group s g = with_row s (Group g)

module _ (t s : Tables) (more : ℕ) (i j : IndexParts) (g : GroupRow) (h : IsStage t s 0 more i) where
  regrouped : j.weights ≡ i.weights → j.standing ≡ i.standing → j.members ≡ i.members → j.booked ≡ lists_of (λ (b : BookingRow). b.group) (numbers_with g.id (group_numbers s)) s.bookings → IsStage t (with_group s g) 0 more j
  regrouped a b c d =
      let rise : IsStrictlySortedBy nat_cmp (group_numbers s) = subst (IsStrictlySortedBy nat_cmp) (ap (map (λ (l : BookingList). l.number)) h.index.booked ∙ map_map (λ (l : BookingList). l.number) (list_of (λ (b : BookingRow). b.group) s.bookings) (group_numbers s) ∙ map_itself (group_numbers s)) h.order.2 in
      let weights : AreWeightsOf (with_group s g) i.weights = raised_weights s (with_group s g) (λ r m. pos 0) i.weights i.weights refl h.order.0 h.index.weights (raised_none Comes i.weights (are_whole s i.weights h.index.weights))
      (λ r m. let e = weight_same (with_group s g) s refl refl (map ask_of s.bookings) r m in ap pos (omega (arith, e))) in
      record {
        resources = h.resources;
        members = h.members;
        groups = λ n e. subst (λ ns. list_any (λ k. k == n) ns ≡ true) (sym (numbers_of g s.groups)) (number_kept n g.id (group_numbers s) (h.groups n e));
        rise = h.rise;
        usable = h.usable;
        known = h.known;
        few = h.few;
        index = record {
          weights = subst (AreWeightsOf (with_group s g)) (sym a) weights;
          standing = b ∙ h.index.standing;
          booked = d ∙ sym (ap (λ ns. lists_of (λ (b : BookingRow). b.group) ns s.bookings) (numbers_of g s.groups));
          members = record { each = λ r. ap (of_member r) c ∙ h.index.members.each r };
        };
        order = (
          subst (λ (l : List Weight). IsStrictlySortedBy nat_cmp (map (λ (x : Weight). x.resource) l)) (sym a) h.order.0,
          subst (λ (l : List BookingList). IsStrictlySortedBy nat_cmp (map (λ (x : BookingList). x.number) l)) (sym b) h.order.1,
          subst (λ (l : List BookingList). IsStrictlySortedBy nat_cmp (map (λ (x : BookingList). x.number) l)) (sym d) (lists_climb (λ (b : BookingRow). b.group) (numbers_with g.id (group_numbers s)) s.bookings (numbers_rise_with g.id (group_numbers s) rise)),
        );
      }

pub listed_numbers : (s : Tables) (lists : List BookingList) → lists ≡ lists_of (λ (b : BookingRow). b.group) (group_numbers s) s.bookings → map (λ (l : BookingList). l.number) lists ≡ group_numbers s
listed_numbers s lists e = ap (map (λ (l : BookingList). l.number)) e ∙ map_map (λ (l : BookingList). l.number) (list_of (λ (b : BookingRow). b.group) s.bookings) (group_numbers s) ∙ map_itself (group_numbers s)

-- a group that stands is put again
pub group_stands : (t s : Tables) (more : ℕ) (i : IndexParts) (g : GroupRow) → IsStage t s 0 more i → (l : BookingList) → find (owns (λ (l : BookingList). l.number) g.id) i.booked ≡ Some l → IsStage t (with_row s (Group g)) 0 more i
group_stands t s more i g h l f =
    let numbers = listed_numbers s i.booked h.index.booked in
    let there : list_any (λ k. k == g.id) (group_numbers s) ≡ true = ap (list_any (λ k. k == g.id)) (sym numbers) ∙ sym (is_found (λ (l : BookingList). l.number) g.id i.booked) ∙ ap is_some f in
    let rise : IsStrictlySortedBy nat_cmp (group_numbers s) = subst (IsStrictlySortedBy nat_cmp) numbers h.order.2 in
    regrouped t s more i i g h refl refl refl (h.index.booked ∙ ap (λ ns. lists_of (λ (b : BookingRow). b.group) ns s.bookings) (sym (numbers_stay g.id (group_numbers s) rise (named_in g.id (group_numbers s) there))))

-- a group that is new is put, and has no booking
pub group_added : (t s : Tables) (more : ℕ) (i j : IndexParts) (g : GroupRow) (at : ℕ) → AreWellFormed t → IsStage t s 0 more i → find (owns (λ (l : BookingList). l.number) g.id) i.booked ≡ None → at ≤ length i.booked
    → IsPartitionPoint (λ (l : BookingList). nat_lt l.number g.id ≡ true) (λ (l : BookingList). nat_lt l.number g.id ≡ false) i.booked at
    → j.weights ≡ i.weights → j.standing ≡ i.standing → j.members ≡ i.members → j.booked ≡ insert i.booked at (record { number = g.id; bookings = [] }) → IsStage t (with_row s (Group g)) 0 more j
group_added t s more i j g at w h f l p a b c d =
    let numbers = listed_numbers s i.booked h.index.booked in
    let new : list_any (λ k. k == g.id) (group_numbers s) ≡ false = ap (list_any (λ k. k == g.id)) (sym numbers) ∙ sym (is_found (λ (l : BookingList). l.number) g.id i.booked) ∙ ap is_some f in
    let none : filter (owns (λ (b : BookingRow). b.group) g.id) s.bookings ≡ [] = none_pass (owns (λ (b : BookingRow). b.group) g.id) s.bookings (λ x k. unbooked t s more i g h w new x k (x.group == g.id) refl) in
    regrouped t s more i j g h a b c (d ∙ inserted_lists (λ (b : BookingRow). b.group) g.id (group_numbers s) s.bookings i.booked at h.index.booked l p (absent_number (λ (l : BookingList). l.number) g.id i.booked f) none)
  where
    unbooked : (t s : Tables) (more : ℕ) (i : IndexParts) (g : GroupRow) → IsStage t s 0 more i → AreWellFormed t → list_any (λ k. k == g.id) (group_numbers s) ≡ false → (x : BookingRow) → IsIn x s.bookings → (c : Bool) → (x.group == g.id) ≡ c → c ≡ false
    unbooked t s more i g h w new x k false e = refl
    unbooked t s more i g h w new x k true e =
        let known : IsIn x t.bookings = elim (all_at (λ (y : BookingRow). (y.id < 0) ⊎ Contains t.bookings y) s.bookings x h.known k) [ inl m ↦ absurd (omega (arith, m)) | inr c ↦ in_from_contains t.bookings x c ] in
        let named = h.groups x.group (group_named t x w known) in
        absurd (false≢true (sym new ∙ subst (λ n. list_any (λ k. k == n) (group_numbers s) ≡ true) (equal x.group g.id e) named))
