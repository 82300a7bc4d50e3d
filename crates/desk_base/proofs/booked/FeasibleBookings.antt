-- The bookings of feasible picks: they are new, they fit, and the group is booked whole by them.
use Rattle.std.proofs.Common.{◌≡◌, ℕ, ◌+◌, ◌≤◌, true, ◌==◌, List, [], ◌++◌, map, filter, length, Option, Some, unwrap_or, inl, inr, sym, ap, ◌∙◌, subst, arith}
use Rattle.std.proofs.lemmas.Bool.{eqb-true}
use Rattle.std.proofs.lemmas.List.{map-append}
use Rattle.std.proofs.lemmas.Option.{none-some}
use Rattle.std.specs.Prelude.{Contains}
use Rattle.std.specs.List.{list_all}
use Rattle.std.specs.Option.{option_map_or}
use Rattle.desk_base.specs.rows.Types.{Tables, GroupRow, BookingRow}
use Rattle.desk_base.specs.declared.rows.tables.Table.TheVariants.{Resource as ResourceTable, Group as GroupTable}
use Rattle.desk_base.specs.declared.rows.tables.AnyRow.TheVariants.{Group}
use Rattle.desk_base.specs.rows.Keys.{id_key}
use Rattle.desk_base.specs.asked.Groups.{group_of}
use Rattle.desk_base.specs.meaning.Load.{Fits, ask_of}
use Rattle.desk_base.specs.meaning.Picks.{choices_of}
use Rattle.desk_base.specs.search.Listing.{other_asks, asks_for, IsFeasible}
use Rattle.desk_base.specs.asked.Refusing.{is_there, picked}
use Rattle.desk_base.specs.asked.Acts.{bookings_from, new_bookings}
use Rattle.desk_base.specs.asked.Steps.{others_of}
use Rattle.desk_base.specs.rules.Sound.{IsSound, IsBooked, bookings_of}
use Rattle.desk_base.proofs.lists.Members.{IsIn, in_from_contains, contains_from_in}
use Rattle.desk_base.proofs.lists.Tests.{find_cases}
use Rattle.desk_base.proofs.tables.Sounds.{keys_rise, well_formed}
use Rattle.desk_base.proofs.tables.TakenRows.{one_row}
use Rattle.desk_base.proofs.booked.NewBookings.{one_of, few_choices, length-bookings_from, asks_from, asks_at_leaf, bookings_rise, new_fields, new_citations}
use Rattle.desk_base.proofs.booked.SoundBookings.{AreNew}

-- the group of a number is there, and has it
pub group_found : (t : Tables) (id : ℕ) (g : GroupRow) → group_of t id ≡ Some g → IsIn g t.groups × (g.id ≡ id)
group_found t id g e = elim (find_cases (λ (x : GroupRow). x.id == id) t.groups) [
  | inl n ↦ absurd (none-some g (sym n ∙ e))
  | inr r ↦
      let same : r.0 ≡ g = ap (λ o. unwrap_or o g) (sym r.3 ∙ e) in
      (subst (λ x. IsIn x t.groups) same r.1, ap (λ (x : GroupRow). x.id) (sym same) ∙ eqb-true r.0.id id r.2)
]

-- the bookings that the picks of a group come to
abbrev pub bookings_for : Tables → GroupRow → ℕ → List (Option ℕ) → List BookingRow
bookings_for t g s picks = bookings_from (t.last_booking + 1) g s (choices_of 0 g.leaves picks)

pub few_new : (t : Tables) (g : GroupRow) (s : ℕ) (picks : List (Option ℕ)) → length (bookings_for t g s picks) ≤ length (picked picks)
few_new t g s picks =
    let same = length-bookings_from g s (t.last_booking + 1) (choices_of 0 g.leaves picks) in
    let few = few_choices 0 g.leaves picks in omega arith

module _ (t : Tables) (id s : ℕ) (picks : List (Option ℕ)) (g : GroupRow) (found : group_of t id ≡ Some g) where
  pub new_is : new_bookings t id s picks ≡ bookings_for t g s picks
  new_is = ap (λ o. option_map_or (λ (x : GroupRow). bookings_from (t.last_booking + 1) x s (choices_of 0 x.leaves picks)) o []) found

  pub are_new : IsSound t → list_all (is_there t) (map (id_key ResourceTable) (picked picks)) ≡ true → AreNew t id (bookings_for t g s picks)
  are_new sound known =
      let group = group_found t id g found in
      let there = contains_from_in t.groups g group.0 in
      let first = t.last_booking + 1 in
      let choices = choices_of 0 g.leaves picks in
      let same = length-bookings_from g s first choices in
      record {
        order = bookings_rise g s first choices;
        above = λ b i. let h = one_of g s first choices b i in let number = ap (λ (x : BookingRow). x.id) h.row in omega (arith, h.low, number);
        within = λ b i. let h = one_of g s first choices b i in let number = ap (λ (x : BookingRow). x.id) h.row in omega (arith, h.high, number, same);
        group = λ b i. ap (λ (x : BookingRow). x.group) (one_of g s first choices b i).row ∙ group.1;
        field = new_fields t g (well_formed t sound) there first s picks;
        citation = new_citations t g (well_formed t sound) there first s picks known;
      }

  module _ (feasible : IsFeasible t g s picks) where
    -- with those of the other groups
    pub new_fit : Fits t (map ask_of (others_of t id ++ bookings_for t g s picks))
    new_fit =
        let number = (group_found t id g found).1 in
        let new = asks_from g s (t.last_booking + 1) (choices_of 0 g.leaves picks) in
        let together : other_asks t g ++ asks_for g s picks ≡ map ask_of (others_of t id) ++ map ask_of (bookings_for t g s picks) = λ i. map ask_of (others_of t (number i)) ++ sym new i in
        subst (Fits t) (together ∙ sym (map-append ask_of (others_of t id) (bookings_for t g s picks))) feasible.fits

    booked_whole : (u : Tables) → bookings_of u g ≡ bookings_for t g s picks → IsBooked u g
    booked_whole u e = record {
      start = s;
      picks = picks;
      grid = feasible.grid;
      pattern = feasible.pattern;
      each = λ j. ap (λ l. map ask_of (filter (λ (b : BookingRow). b.leaf == j) l)) e ∙ asks_at_leaf g s j (t.last_booking + 1) (choices_of 0 g.leaves picks);
    }

    -- a group of this number is the one that is found
    pub own_booked : IsSound t → (x : GroupRow) → Contains t.groups x → x.id ≡ id → (u : Tables) → bookings_of u x ≡ bookings_for t g s picks → IsBooked u x
    own_booked sound x c e =
        let group = group_found t id g found in
        let same = one_row Group t.groups x g (keys_rise t GroupTable sound) (in_from_contains t.groups x c) group.0 (ap (id_key GroupTable) (e ∙ sym group.1)) in
        subst (λ y. (u : Tables) → bookings_of u y ≡ bookings_for t g s picks → IsBooked u y) (sym same) booked_whole
