-- A group that is taken out: its list goes.
use Rattle.std.proofs.Common.{◌≡◌, ℕ, ◌<◌, false, ◌==◌, List, map, length, get_or, None, is_some, pos, refl, sym, ap, ◌∙◌, subst}
use Rattle.std.specs.Prelude.{find}
use Rattle.std.specs.Ordering.{nat_cmp}
use Rattle.std.specs.List.{list_any, remove}
use Rattle.std.specs.List.Sorted.{IsStrictlySortedBy}
use Rattle.desk_base.specs.declared.rows.tables.Tables.{Tables}
use Rattle.desk_base.specs.declared.rows.tables.AnyRow.TheVariants.{Group}
use Rattle.desk_base.specs.declared.rows.tables.Table.TheVariants.{Group as GroupTable}
use Rattle.desk_base.specs.declared.rows.groups.GroupRow.{GroupRow}
use Rattle.desk_base.specs.declared.rows.bookings.BookingRow.{BookingRow}
use Rattle.desk_base.specs.rows.Keys.{id_key}
use Rattle.desk_base.specs.rows.Ranges.{owns}
use Rattle.desk_base.specs.rows.Rows.{key_of}
use Rattle.desk_base.specs.meaning.Load.{weight, ask_of}
use Rattle.desk_member.specs.Memberships.{of_member}
use Rattle.desk_base.specs.changes.Changes.{without_row}
use Rattle.desk_base.proofs.lists.Members.{all_from, all_at}
use Rattle.desk_load.specs.declared.weights.Weight.{Weight}
use Rattle.desk_load.specs.declared.lists.BookingList.{BookingList}
use Rattle.desk_load.specs.Parted.{IndexParts}
use Rattle.desk_load.specs.Index.{IsWeightOf, AreWeightsOf, IsIndexOf, group_numbers}
use Rattle.desk_load.specs.Lists.{lists_of}
use Rattle.desk_load.specs.Changed.{IsOrdered}
use Rattle.desk_load.proofs.Keeping.{weight_same}
use Rattle.desk_load.proofs.Reweighed.{is_found}
use Rattle.desk_load.proofs.Grouped.{listed_numbers}
use Rattle.desk_load.proofs.Renumbered.{numbers_without, group_below, ids_taken, numbers_rise_without, numbers_absent, removed_numbers, lists_removed}

-- weights of tables of the same resources, memberships and bookings
pub same_weights : (t s : Tables) (ws : List Weight) → s.resources ≡ t.resources → s.members ≡ t.members → s.bookings ≡ t.bookings → AreWeightsOf t ws → AreWeightsOf s ws
same_weights t s ws a b c h = record {
  numbers = h.numbers ∙ sym (ap (map (λ x. x.id)) a);
  each = all_from (λ (w : Weight). IsWeightOf s w.resource w.weight) ws (λ w i.
      let k = all_at (λ (w : Weight). IsWeightOf t w.resource w.weight) ws w h.each i in
      record {
        begin = k.begin;
        end = k.end;
        weight_at = λ m l e. k.weight_at m l e ∙ ap pos (sym (weight_same s t a b (map ask_of s.bookings) w.resource m ∙ ap (λ (bs : List BookingRow). weight t (map ask_of bs) w.resource m) c));
      });
}

abbrev without_group : Tables → ℕ → Tables
without_group s n = without_row s GroupTable (id_key GroupTable n)

numbers_left : (s : Tables) (n : ℕ) → group_numbers (without_group s n) ≡ numbers_without n (group_numbers s)
numbers_left s n = ids_taken (λ (g : GroupRow). g.id) (λ (g : GroupRow). key_of (Group g)) (id_key GroupTable n) n (λ g. group_below g.id n) (λ g. group_below n g.id) s.groups

module _ (s : Tables) (n : ℕ) (i j : IndexParts) (h : IsIndexOf s i) (a : j.weights ≡ i.weights) (b : j.standing ≡ i.standing) (c : j.members ≡ i.members) (d : j.booked ≡ lists_of (λ (x : BookingRow). x.group) (numbers_without n (group_numbers s)) s.bookings) where
  ungrouped : IsIndexOf (without_group s n) j
  ungrouped = record {
    weights = subst (AreWeightsOf (without_group s n)) (sym a) (same_weights s (without_group s n) i.weights refl refl refl h.weights);
    standing = b ∙ h.standing;
    booked = d ∙ sym (ap (λ ns. lists_of (λ (x : BookingRow). x.group) ns s.bookings) (numbers_left s n));
    members = record { each = λ r. ap (of_member r) c ∙ h.members.each r };
  }

numbers_climb : (s : Tables) (i : IndexParts) → IsIndexOf s i → IsOrdered i → IsStrictlySortedBy nat_cmp (group_numbers s)
numbers_climb s i h o = subst (IsStrictlySortedBy nat_cmp) (listed_numbers s i.booked h.booked) o.2

-- a group that is not there
pub group_missing : (s : Tables) (n : ℕ) (i : IndexParts) → IsIndexOf s i → IsOrdered i → find (owns (λ (l : BookingList). l.number) n) i.booked ≡ None → IsIndexOf (without_group s n) i
group_missing s n i h o f =
    let numbers = listed_numbers s i.booked h.booked in
    let none : list_any (λ k. k == n) (group_numbers s) ≡ false = ap (list_any (λ k. k == n)) (sym numbers) ∙ sym (is_found (λ (l : BookingList). l.number) n i.booked) ∙ ap is_some f in
    ungrouped s n i i h refl refl refl (h.booked ∙ ap (λ ns. lists_of (λ (x : BookingRow). x.group) ns s.bookings) (sym (numbers_absent n (group_numbers s) (numbers_climb s i h o) none)))

-- and one whose list stands at a place
pub group_gone : (s : Tables) (n : ℕ) (i j : IndexParts) (at : ℕ) (x : BookingList) → IsIndexOf s i → IsOrdered i → at < length i.booked → (get_or i.booked at x).number ≡ n → j.weights ≡ i.weights → j.standing ≡ i.standing → j.members ≡ i.members → j.booked ≡ remove i.booked at → IsIndexOf (without_group s n) j
group_gone s n i j at x h o l e a b c d = ungrouped s n i j h a b c (d ∙ lists_removed (λ (x : BookingRow). x.group) n (group_numbers s) s.bookings i.booked at x h.booked o.2 l e)

-- the others stand in their order
pub order_left : (n : ℕ) (i j : IndexParts) (at : ℕ) (x : BookingList) → IsOrdered i → at < length i.booked → (get_or i.booked at x).number ≡ n → j.weights ≡ i.weights → j.standing ≡ i.standing → j.booked ≡ remove i.booked at → IsOrdered j
order_left n i j at x o l e a b d = (
  subst (λ (l : List Weight). IsStrictlySortedBy nat_cmp (map (λ (x : Weight). x.resource) l)) (sym a) o.0,
  subst (λ (l : List BookingList). IsStrictlySortedBy nat_cmp (map (λ (x : BookingList). x.number) l)) (sym b) o.1,
  subst (IsStrictlySortedBy nat_cmp) (sym (ap (map (λ (x : BookingList). x.number)) d ∙ removed_numbers (λ (x : BookingList). x.number) n i.booked at x l o.2 e)) (numbers_rise_without n (map (λ (x : BookingList). x.number) i.booked) o.2),
)
