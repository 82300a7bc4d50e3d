-- The bookings that picks of a group come to: their numbers, what they ask for, and the rules that they keep.
use Rattle.std.proofs.Common.{◌≡◌, ℕ, suc, ◌+◌, ◌<◌, ◌≤◌, Bool, true, false, cond, ◌&&◌, ◌==◌, nat_le, nat_lt, List, [], ◌∷◌, map, filter, length, Option, Some, None, inl, inr, refl, sym, ap, ◌∙◌, subst, is_none, arith}
use Rattle.std.proofs.lemmas.Bool.Decides.{nat_tests}
use Rattle.std.specs.Prelude.{Contains}
use Rattle.std.specs.List.{list_all}
use Rattle.std.specs.List.Sorted.{IsStrictlySortedBy}
use Rattle.std.specs.declared.cmp.Ordering.TheVariants.{Less}
use Rattle.std.specs.Ordering.{nat_cmp}
use Rattle.desk_base.specs.rows.Types.{Tables, Key, GroupRow, BookingRow, Leaf}
use Rattle.desk_base.specs.declared.rows.tables.Table.TheVariants.{Resource as ResourceTable, Group as GroupTable}
use Rattle.desk_base.specs.declared.rows.tables.AnyRow.TheVariants.{Group, Booking}
use Rattle.desk_base.specs.declared.asked.rules.Field.{Field}
use Rattle.desk_base.specs.declared.asked.rules.Field.TheVariants.{To, Duration, Effort}
use Rattle.desk_base.specs.rules.Limits.{duration_limit, effort_limit}
use Rattle.desk_base.specs.rules.Rules.{first_broken}
use Rattle.desk_base.specs.rows.Keys.{key_cmp, id_key}
use Rattle.desk_base.specs.rows.Rows.{rows_in, key_of, keys_in, citations_of}
use Rattle.desk_base.specs.rows.Lookups.{keys_by}
use Rattle.desk_base.specs.rules.TreeRules.{tree_fault}
use Rattle.desk_base.specs.rules.Fields.{is_within_range, leaf_rules, join_rules, group_rules}
use Rattle.desk_base.specs.meaning.Time.{leaf_time}
use Rattle.desk_base.specs.meaning.Load.{ask_of}
use Rattle.desk_base.specs.meaning.Picks.{Choice, choices_of}
use Rattle.desk_base.specs.search.Listing.{ask_for}
use Rattle.desk_base.specs.asked.Refusing.{is_there, picked}
use Rattle.desk_base.specs.asked.Acts.{bookings_from}
use Rattle.desk_base.specs.rules.Sound.{AreWellFormed, keeps_fields}
use Rattle.desk_base.proofs.lists.Members.{IsIn, all_at, all_from, in_left, in_right, in-map, in_mapped, in_from_contains}
use Rattle.desk_base.proofs.lists.Tests.{and_left, and_right, list_all_at}
use Rattle.desk_base.proofs.meaning.Patterns.{nat_cmp-less, then-less}
use Rattle.desk_base.proofs.tables.Sounds.{group_keeps}
use Rattle.desk_base.proofs.meaning.Shapes.{rules_kept, none_from}
use Rattle.desk_base.proofs.puts.Suits.{key_there}

-- ---- choices

-- a choice is of one of the leaves, and its resource is picked
pub choice_from : (i : ℕ) (leaves : List Leaf) (picks : List (Option ℕ)) (c : Choice) → IsIn c (choices_of i leaves picks) → IsIn c.leaf leaves × IsIn c.resource (picked picks)
choice_from i [] picks c j = absurd j
choice_from i (l ∷ ls) [] c j = absurd j
choice_from i (l ∷ ls) (None ∷ picks) c j = let h = choice_from (i + 1) ls picks c j in (inr h.0, h.1)
choice_from i (l ∷ ls) (Some r ∷ picks) c (inl e) = (inl (ap (λ (d : Choice). d.leaf) e), inl (ap (λ (d : Choice). d.resource) e))
choice_from i (l ∷ ls) (Some r ∷ picks) c (inr j) = let h = choice_from (i + 1) ls picks c j in (inr h.0, inr h.1)

pub few_choices : (i : ℕ) (leaves : List Leaf) (picks : List (Option ℕ)) → length (choices_of i leaves picks) ≤ length (picked picks)
few_choices i [] picks = omega arith
few_choices i (l ∷ ls) [] = omega arith
few_choices i (l ∷ ls) (None ∷ picks) = few_choices (i + 1) ls picks
few_choices i (l ∷ ls) (Some r ∷ picks) = let h = few_choices (i + 1) ls picks in omega arith

-- ---- the bookings

-- the booking of a choice, with this number
abbrev pub booking_of : ℕ → GroupRow → ℕ → Choice → BookingRow
booking_of n g s c = record { id = n; group = g.id; leaf = c.number; resource = c.resource; from = (leaf_time c.leaf s).from; to = (leaf_time c.leaf s).to; effort = c.leaf.effort }

-- it is the booking of one of the choices, numbered from n on
pub record IsOneOf (n : ℕ) (g : GroupRow) (s : ℕ) (choices : List Choice) (b : BookingRow) : Type 0 where
  pub number : ℕ
  pub choice : Choice
  pub chosen : IsIn choice choices
  pub low : n ≤ number
  pub high : number < n + length choices
  pub row : b ≡ booking_of number g s choice

module _ (g : GroupRow) (s : ℕ) where
  pub one_of : (n : ℕ) (choices : List Choice) (b : BookingRow) → IsIn b (bookings_from n g s choices) → IsOneOf n g s choices b
  one_of n [] b i = absurd i
  one_of n (c ∷ cs) b (inl e) = record { number = n; choice = c; chosen = inl refl; low = omega arith; high = omega arith; row = e }
  one_of n (c ∷ cs) b (inr i) =
      let h = one_of (n + 1) cs b i in
      record { number = h.number; choice = h.choice; chosen = inr h.chosen; low = omega (arith, h.low); high = omega (arith, h.high); row = h.row }

  pub length-bookings_from : (n : ℕ) (choices : List Choice) → length (bookings_from n g s choices) ≡ length choices
  length-bookings_from n [] = refl
  length-bookings_from n (c ∷ cs) = ap suc (length-bookings_from (n + 1) cs)

  -- they ask for what the choices ask for
  pub asks_from : (n : ℕ) (choices : List Choice) → map ask_of (bookings_from n g s choices) ≡ map (ask_for s) choices
  asks_from n [] = refl
  asks_from n (c ∷ cs) = ap (λ l. ask_for s c ∷ l) (asks_from (n + 1) cs)

  -- also leaf by leaf
  pub asks_at_leaf : (j n : ℕ) (choices : List Choice) → map ask_of (filter (λ (b : BookingRow). b.leaf == j) (bookings_from n g s choices)) ≡ map (ask_for s) (filter (λ (c : Choice). c.number == j) choices)
  asks_at_leaf j n [] = refl
  asks_at_leaf j n (c ∷ cs) = step (c.number == j) (asks_at_leaf j (n + 1) cs)
    where
      step : (b : Bool) → map ask_of (filter (λ (b : BookingRow). b.leaf == j) (bookings_from (n + 1) g s cs)) ≡ map (ask_for s) (filter (λ (c : Choice). c.number == j) cs)
          → map ask_of (cond b (booking_of n g s c ∷ filter (λ (b : BookingRow). b.leaf == j) (bookings_from (n + 1) g s cs)) (filter (λ (b : BookingRow). b.leaf == j) (bookings_from (n + 1) g s cs)))
          ≡ map (ask_for s) (cond b (c ∷ filter (λ (c : Choice). c.number == j) cs) (filter (λ (c : Choice). c.number == j) cs))
      step true r = ap (λ l. ask_for s c ∷ l) r
      step false r = r

  -- their numbers rise
  pub bookings_rise : (n : ℕ) (choices : List Choice) → IsStrictlySortedBy key_cmp (keys_by Booking (bookings_from n g s choices))
  unfolding IsStrictlySortedBy
  bookings_rise n [] = tt
  bookings_rise n (c ∷ cs) = (
    all_from (λ k. key_cmp (key_of (Booking (booking_of n g s c))) k ≡ Less) (keys_by Booking (bookings_from (n + 1) g s cs)) (λ k i.
        let x = in-map key_of k (map Booking (bookings_from (n + 1) g s cs)) i in
        let b = in-map Booking x.0 (bookings_from (n + 1) g s cs) x.1 in
        let h = one_of (n + 1) cs b.0 b.1 in
        let key : k ≡ key_of (Booking (booking_of h.number g s h.choice)) = x.2 ∙ ap key_of b.2 ∙ ap (λ d. key_of (Booking d)) h.row in
        subst (λ l. key_cmp (key_of (Booking (booking_of n g s c))) l ≡ Less) (sym key) (then-less (nat_cmp n h.number) _ (nat_cmp-less n h.number (omega (arith, h.low))))),
    bookings_rise (n + 1) cs,
  )

-- ---- their rules

in_joined : (leaves : List Leaf) (l : Leaf) (rule : Bool × Field) → IsIn l leaves → IsIn rule (leaf_rules l) → IsIn rule (join_rules leaf_rules leaves)
in_joined [] l rule i j = absurd i
in_joined (m ∷ leaves) l rule (inl e) j = in_left rule (leaf_rules m) (join_rules leaf_rules leaves) (subst (λ k. IsIn rule (leaf_rules k)) e j)
in_joined (m ∷ leaves) l rule (inr i) j = in_right rule (leaf_rules m) (join_rules leaf_rules leaves) (in_joined leaves l rule i j)

after_start : (s d : ℕ) → is_within_range 1 duration_limit d ≡ true → nat_lt s (s + d) ≡ true
after_start s d h = let e = and_left (nat_le 1 d) (nat_le d duration_limit) h in grind (arith, nat_tests)

module _ (t : Tables) (g : GroupRow) (formed : AreWellFormed t) (there : Contains t.groups g) where
  leaf_keeps : (l : Leaf) (rule : Bool × Field) → IsIn l g.leaves → IsIn rule (leaf_rules l) → rule.0 ≡ true
  leaf_keeps l rule i j =
      let kept = and_left (is_none (first_broken (group_rules g))) (is_none (tree_fault g.nodes (length g.leaves))) (group_keeps t g formed.field there) in
      let rules = rules_kept (group_rules g) (none_from (first_broken (group_rules g)) kept) in
      all_at (λ (x : Bool × Field). x.0 ≡ true) (join_rules leaf_rules g.leaves) rule rules.1.1.1 (in_joined g.leaves l rule i j)

  -- no leaf asks for more than the greatest effort
  pub leaf_light : (l : Leaf) → IsIn l g.leaves → l.effort ≤ effort_limit
  leaf_light l i = let e = and_right (nat_le 1 l.effort) (nat_le l.effort effort_limit) (leaf_keeps l (is_within_range 1 effort_limit l.effort, Effort) i (inr (inr (inl refl)))) in grind (arith, nat_tests)

  module _ (n s : ℕ) (picks : List (Option ℕ)) where
    -- each is within the ranges of its fields
    pub new_fields : (b : BookingRow) → IsIn b (bookings_from n g s (choices_of 0 g.leaves picks)) → keeps_fields t (Booking b) ≡ true
    new_fields b i =
        let h = one_of g s n (choices_of 0 g.leaves picks) b i in
        let l = h.choice.leaf in
        let of_group = (choice_from 0 g.leaves picks h.choice h.chosen).0 in
        let long = after_start (s + l.offset) l.duration (leaf_keeps l (is_within_range 1 duration_limit l.duration, Duration) of_group (inl refl)) in
        let effort = leaf_keeps l (is_within_range 1 effort_limit l.effort, Effort) of_group (inr (inr (inl refl))) in
        subst (λ d. keeps_fields t (Booking d) ≡ true) (sym h.row) (λ j. is_none (cond (long j) (cond (effort j) None (Some Effort)) (Some To)) && true)

    -- each names its group and a resource, which are there
    pub new_citations : list_all (is_there t) (map (id_key ResourceTable) (picked picks)) ≡ true → (b : BookingRow) (k : Key) → IsIn b (bookings_from n g s (choices_of 0 g.leaves picks)) → IsIn k (citations_of (Booking b)) → IsIn k (keys_in t k.table)
    new_citations known b k i j =
        let h = one_of g s n (choices_of 0 g.leaves picks) b i in
        let r = (choice_from 0 g.leaves picks h.choice h.chosen).1 in
        let group : IsIn (id_key GroupTable g.id) (keys_in t GroupTable) = in_mapped key_of (Group g) (rows_in t GroupTable) (in_mapped Group g t.groups (in_from_contains t.groups g there)) in
        let resource : IsIn (id_key ResourceTable h.choice.resource) (keys_in t ResourceTable) =
        key_there t (id_key ResourceTable h.choice.resource) (list_all_at (is_there t) (map (id_key ResourceTable) (picked picks)) (id_key ResourceTable h.choice.resource) known (in_mapped (id_key ResourceTable) h.choice.resource (picked picks) r)) in
        elim (subst (λ d. IsIn k (citations_of (Booking d))) h.row j) [
          | inl e ↦ subst (λ l. IsIn l (keys_in t l.table)) (sym e) group
          | inr (inl e) ↦ subst (λ l. IsIn l (keys_in t l.table)) (sym e) resource
          | inr (inr f) ↦ absurd f
        ]
