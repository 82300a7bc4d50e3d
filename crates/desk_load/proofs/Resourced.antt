-- A resource that is put or taken out: what the others weigh stays.
use Rattle.std.proofs.Common.{◌≡◌, ℕ, ◌+◌, Bool, true, false, cond, not, ◌&&◌, ◌||◌, ◌==◌, nat_lt, List, [], ◌∷◌, map, Some, None, is_some, ◌⊎◌, inl, inr, pos, refl, sym, ap, ◌∙◌, subst, arith}
use Rattle.std.proofs.lemmas.Bool.{false≢true}
use Rattle.std.proofs.lemmas.Bool.Decides.{nat_tests}
use Rattle.std.proofs.lemmas.List.Sums.{sum_by-cons}
use Rattle.std.specs.Prelude.{filter, find, sum_by}
use Rattle.std.specs.Ordering.{nat_cmp}
use Rattle.std.specs.List.{list_any}
use Rattle.std.specs.List.Sorted.{IsStrictlySortedBy}
use Rattle.std.specs.Option.{option_map_or}
use Rattle.desk_base.specs.declared.rows.tables.Tables.{Tables}
use Rattle.desk_base.specs.declared.rows.tables.Key.{Key}
use Rattle.desk_base.specs.declared.rows.tables.AnyRow.TheVariants.{Resource, Member}
use Rattle.desk_base.specs.declared.rows.tables.Table.TheVariants.{Resource as ResourceTable}
use Rattle.desk_base.specs.declared.rows.resources.ResourceRow.{ResourceRow}
use Rattle.desk_base.specs.declared.rows.resources.MemberRow.{MemberRow}
use Rattle.desk_base.specs.declared.rows.bookings.BookingRow.{BookingRow}
use Rattle.desk_base.specs.declared.search.results.Ask.{Ask}
use Rattle.desk_base.specs.rows.Keys.{key_cmp, id_key}
use Rattle.desk_base.specs.rows.Lookups.{keys_by}
use Rattle.desk_base.specs.rows.Ranges.{owns}
use Rattle.desk_base.specs.rows.Rows.{key_of, keys_in, citations_of}
use Rattle.desk_base.specs.rules.Sound.{AreWellFormed}
use Rattle.desk_base.specs.asked.Refusing.{is_key}
use Rattle.desk_base.specs.changes.Changes.{with_row, without_row}
use Rattle.desk_base.specs.meaning.Time.{covers}
use Rattle.desk_base.specs.meaning.Capacity.{resource_of}
use Rattle.desk_base.specs.meaning.Load.{LoadSort, plain, crew, pool, unknown, sort_of, sort_of_kind, is_crew, members, loads, effort_at, own_load, plain_load, load_by, load, weight, ask_of}
use Rattle.desk_base.proofs.lists.Members.{IsIn, all_from, all_at, in-append, in-filter, in_filtered, in-map, in_mapped, contains_from_in, in_from_contains}
use Rattle.desk_base.proofs.lists.Filtered.{none_pass}
use Rattle.desk_base.proofs.lists.Tests.{and-false}
use Rattle.desk_base.proofs.tables.KeyOrder.{is_key-same}
use Rattle.desk_base.proofs.tables.WithOne.{in_new}
use Rattle.desk_member.specs.Memberships.{of_member}
use Rattle.desk_load.specs.declared.weights.Weight.{Weight}
use Rattle.desk_load.specs.declared.lists.BookingList.{BookingList}
use Rattle.desk_load.specs.Parted.{IndexParts}
use Rattle.desk_load.specs.Index.{IsWeightOf, AreWeightsOf, IsIndexOf, resource_numbers}
use Rattle.desk_load.specs.Lists.{lists_of, list_under}
use Rattle.desk_load.specs.Changed.{IsOrdered}
use Rattle.desk_load.specs.Differing.{rows_beside}
use Rattle.desk_load.specs.Joined.{rows_off, rows_with, IsWeightAdded}
use Rattle.desk_load.specs.Stages.{IsUsable, IsStage}
use Rattle.desk_load.proofs.Bearing.{found_alike}
use Rattle.desk_load.proofs.Differing.{beside_put, beside_taken}
use Rattle.desk_load.proofs.Listing.{lists_climb}
use Rattle.desk_load.proofs.Numbers.{keys_climb, map_map, map_itself}
use Rattle.desk_load.proofs.Reading.{under}
use Rattle.desk_load.proofs.Reweighed.{is_found, found_own}
use Rattle.desk_load.proofs.Renumbered.{numbers_with, numbers_stay, numbers_rise_with, named_in, list_of, numbers_without, resource_below, ids_taken, ids_put, numbers_rise_without, in-off, off_numbers, with_numbers, lists_off, lists_with}
use Rattle.desk_load.proofs.RoomLemmas.{none_found}
use Rattle.desk_load.proofs.Used.{joins, member_by_rows}

equal : (a b : ℕ) → (a == b) ≡ true → a ≡ b
equal a b e = grind (arith, nat_tests)

same : (a b : ℕ) → a ≡ b → (a == b) ≡ true
same a b e = grind (arith, nat_tests)

under_other : (a b : ℕ) → nat_lt a b ≡ true → (a == b) ≡ false
under_other a b e = grind (arith, nat_tests)

over_other : (a b : ℕ) → nat_lt b a ≡ true → (a == b) ≡ false
over_other a b e = grind (arith, nat_tests)

-- ---- tables of the same memberships whose resources are of the same sorts, as far as P goes

module _ (s u : Tables) (P : ℕ → Type 0) (es : (r : ℕ) → P r → sort_of u r ≡ sort_of s r) (em : u.members ≡ s.members) where
  members_alike : (g m : ℕ) → members u g m ≡ members s g m
  members_alike g m = ap (λ (l : List MemberRow). map (λ (x : MemberRow). x.member) (filter (λ (x : MemberRow). (x.group == g) && covers x.from x.to m) l)) em

  loads_alike : (on r m : ℕ) → P on → loads u on r m ≡ loads s on r m
  loads_alike on r m p = λ i. (on == r) || (is_crew (es on p i) && list_any (λ x. x == r) (members_alike on m i))

  plain_alike : (r m : ℕ) (a : Ask) → P a.resource → plain_load u r m a ≡ plain_load s r m a
  unfolding plain_load
  plain_alike r m a p = ap (λ b. cond b (effort_at m a) 0) (loads_alike a.resource r m p)

  by_alike : (k : LoadSort) (r m : ℕ) (a : Ask) → P a.resource → load_by k u r m a ≡ load_by k s r m a
  by_alike plain r m a p = plain_alike r m a p
  by_alike crew r m a p = refl
  by_alike pool r m a p = λ i. own_load r m a + sum_by (λ x. plain_alike x m a p i) (members_alike r m i)
  by_alike unknown r m a p = refl

  load_alike : (r m : ℕ) (a : Ask) → P r → P a.resource → load u r m a ≡ load s r m a
  unfolding load
  load_alike r m a p q = ap (λ k. load_by k u r m a) (es r p) ∙ by_alike (sort_of s r) r m a q

  weight_alike : (bs : List BookingRow) (r m : ℕ) → P r → ((b : BookingRow) → IsIn b bs → P b.resource) → weight u (map ask_of bs) r m ≡ weight s (map ask_of bs) r m
  weight_alike [] r m p h = refl
  weight_alike (b ∷ bs) r m p h =
      let e = load_alike r m (ask_of b) p (h b (inl refl)) in
      let f = weight_alike bs r m p (λ c i. h c (inr i)) in
      let c = sum_by-cons (load u r m) (ask_of b) (map ask_of bs) in
      let d = sum_by-cons (load s r m) (ask_of b) (map ask_of bs) in
      omega (arith, c, d, e, f)

-- the sorts of the others stay
sort_beside : (s u : Tables) (n : ℕ) → rows_beside Resource (id_key ResourceTable n) u.resources ≡ rows_beside Resource (id_key ResourceTable n) s.resources → (r : ℕ) → (r == n) ≡ false → sort_of u r ≡ sort_of s r
sort_beside s u n h r e = ap (λ o. option_map_or (λ (x : ResourceRow). sort_of_kind x.kind) o unknown) (found_alike (λ (x : ResourceRow). x.id == r) (λ x. not (is_key (id_key ResourceTable n) (key_of (Resource x)))) (λ x f. other x f (is_key (id_key ResourceTable n) (key_of (Resource x))) refl) s.resources u.resources h)
  where
    other : (x : ResourceRow) → (x.id == r) ≡ true → (b : Bool) → is_key (id_key ResourceTable n) (key_of (Resource x)) ≡ b → not b ≡ true
    other x f false g = refl
    other x f true g =
        let k : n ≡ x.id = ap (λ (k : Key). k.a) (is_key-same (id_key ResourceTable n) (key_of (Resource x)) g) in
        absurd (false≢true (sym e ∙ same r n (sym (equal x.id r f) ∙ sym k)))

-- ---- weights, where only one resource comes or goes

module _ (s u : Tables) (n : ℕ) (em : u.members ≡ s.members) (eb : u.bookings ≡ s.bookings) (es : (r : ℕ) → (r == n) ≡ false → sort_of u r ≡ sort_of s r) (off : (b : BookingRow) → IsIn b s.bookings → (b.resource == n) ≡ false) where
  others_weigh : (r m : ℕ) → (r == n) ≡ false → weight u (map ask_of u.bookings) r m ≡ weight s (map ask_of s.bookings) r m
  others_weigh r m e = ap (λ (bs : List BookingRow). weight u (map ask_of bs) r m) eb ∙ weight_alike s u (λ r. (r == n) ≡ false) es em s.bookings r m e off

  weights_beside : (old new : List Weight) → AreWeightsOf s old → map (λ (w : Weight). w.resource) new ≡ resource_numbers u → ((w : Weight) → IsIn w new → (IsIn w old × ((w.resource == n) ≡ false)) ⊎ IsWeightOf u w.resource w.weight) → AreWeightsOf u new
  weights_beside old new h numbers each = record {
    numbers = numbers;
    each = all_from (λ (w : Weight). IsWeightOf u w.resource w.weight) new (λ w i. elim (each w i) [ inl k ↦ kept w k.0 k.1 | inr k ↦ k ]);
  }
    where
      kept : (w : Weight) → IsIn w old → (w.resource == n) ≡ false → IsWeightOf u w.resource w.weight
      kept w i e =
          let k = all_at (λ (w : Weight). IsWeightOf s w.resource w.weight) old w h.each i in
          record { begin = k.begin; end = k.end; weight_at = λ m l f. k.weight_at m l f ∙ ap pos (sym (others_weigh w.resource m e)) }

-- ---- a resource that no membership and no booking is of weighs nothing

module _ (u : Tables) (n m : ℕ) (alone : of_member n u.members ≡ []) (empty : members u n m ≡ []) where
  not_loaded : (a : Ask) → (a.resource == n) ≡ false → loads u a.resource n m ≡ false
  not_loaded a e =
      let none : list_any (λ x. x == n) (members u a.resource m) ≡ false = member_by_rows u a.resource n m ∙ ap (list_any (joins a.resource m)) alone in
      (λ i. e i || (is_crew (sort_of u a.resource) && none i)) ∙ and-false (is_crew (sort_of u a.resource))

  nothing_by : (k : LoadSort) (a : Ask) → (a.resource == n) ≡ false → load_by k u n m a ≡ 0
  unfolding plain_load own_load
  nothing_by plain a e = ap (λ b. cond b (effort_at m a) 0) (not_loaded a e)
  nothing_by crew a e = ap (λ b. cond b (effort_at m a) 0) e
  nothing_by pool a e = (λ i. cond (e i) (effort_at m a) 0 + sum_by (λ x. plain_load u x m a) (empty i))
  nothing_by unknown a e = refl

  nothing_of : (a : Ask) → (a.resource == n) ≡ false → load u n m a ≡ 0
  unfolding load
  nothing_of a e = nothing_by (sort_of u n) a e

  weighs_nothing : (bs : List BookingRow) → ((b : BookingRow) → IsIn b bs → (b.resource == n) ≡ false) → weight u (map ask_of bs) n m ≡ 0
  weighs_nothing [] h = refl
  weighs_nothing (b ∷ bs) h =
      let e = nothing_of (ask_of b) (h b (inl refl)) in
      let f = weighs_nothing bs (λ c i. h c (inr i)) in
      let c = sum_by-cons (load u n m) (ask_of b) (map ask_of bs) in
      omega (arith, c, e, f)

-- ---- what well-formed tables say of a number that is no resource's

module _ (t : Tables) (w : AreWellFormed t) (n : ℕ) (missing : resource_of t n ≡ None) where
  unnamed : list_any (λ k. k == n) (resource_numbers t) ≡ false
  unnamed = sym (is_found (λ (x : ResourceRow). x.id) n t.resources) ∙ ap is_some missing

  named : (k : ℕ) (ks : List ℕ) → IsIn k ks → list_any (λ j. j == k) ks ≡ true
  named k [] i = absurd i
  named k (j ∷ ks) (inl e) = ap (λ b. b || list_any (λ j. j == k) ks) (same j k (sym e))
  named k (j ∷ ks) (inr i) = step (j == k) (named k ks i)
    where
      step : (b : Bool) → list_any (λ j. j == k) ks ≡ true → (b || list_any (λ j. j == k) ks) ≡ true
      step true h = refl
      step false h = h

  cited : (y : MemberRow) (r : ℕ) → IsIn y t.members → IsIn (id_key ResourceTable r) (citations_of (Member y)) → list_any (λ k. k == r) (resource_numbers t) ≡ true
  cited y r i j =
      let c = w.citation (key_of (Member y)) (Member y) (id_key ResourceTable r) (contains_from_in (map Member t.members) (Member y) (in_mapped Member y t.members i)) refl (contains_from_in (citations_of (Member y)) (id_key ResourceTable r) j) in
      let k = in-map key_of (id_key ResourceTable r) (map Resource t.resources) (in_from_contains (keys_in t ResourceTable) (id_key ResourceTable r) c) in
      let x = in-map Resource k.0 t.resources k.1 in
      let e : r ≡ x.0.id = ap (λ (k : Key). k.a) (k.2 ∙ ap key_of x.2) in
      named r (resource_numbers t) (subst (λ n. IsIn n (resource_numbers t)) (sym e) (in_mapped (λ (x : ResourceRow). x.id) x.0 t.resources x.1))

  other_than : (r : ℕ) → list_any (λ k. k == r) (resource_numbers t) ≡ true → (b : Bool) → (r == n) ≡ b → b ≡ false
  other_than r h false e = refl
  other_than r h true e = absurd (false≢true (sym unnamed ∙ subst (λ k. list_any (λ j. j == k) (resource_numbers t) ≡ true) (equal r n e) h))

  no_membership : of_member n t.members ≡ []
  no_membership = none_pass (λ (y : MemberRow). y.member == n) t.members (λ y i. other_than y.member (cited y y.member i (inr (inl refl))) (y.member == n) refl)

  no_member : (m : ℕ) → members t n m ≡ []
  no_member m = ap (map (λ (y : MemberRow). y.member)) (none_pass (λ (y : MemberRow). (y.group == n) && covers y.from y.to m) t.members (λ y i. ap (λ b. b && covers y.from y.to m) (other_than y.group (cited y y.group i (inl refl)) (y.group == n) refl)))

-- ---- a stage

module _ (t s : Tables) (more : ℕ) (i : IndexParts) (wf : AreWellFormed t) (h : IsStage t s 0 more i) where
  rise : IsStrictlySortedBy key_cmp (keys_by Resource s.resources)
  rise = subst (λ (l : List ResourceRow). IsStrictlySortedBy key_cmp (keys_by Resource l)) (sym h.resources) (keys_climb t wf ResourceTable)

  climb : IsStrictlySortedBy nat_cmp (resource_numbers s)
  climb = subst (IsStrictlySortedBy nat_cmp) h.index.weights.numbers h.order.0

  -- no booking stands on what is no resource
  none_stands : (n : ℕ) → resource_of t n ≡ None → (b : BookingRow) → IsIn b s.bookings → (b.resource == n) ≡ false
  none_stands n missing b k =
      let u = all_at (IsUsable t) s.bookings b h.usable k in
      other_than t wf n missing b.resource (sym (is_found (λ (x : ResourceRow). x.id) b.resource t.resources) ∙ u.there) (b.resource == n) refl

  pub absent_weight : (n : ℕ) → resource_of t n ≡ None → find (owns (λ (w : Weight). w.resource) n) i.weights ≡ None
  absent_weight n missing = none_found (λ (w : Weight). w.resource) n i.weights (ap (list_any (λ k. k == n)) (h.index.weights.numbers ∙ ap (map (λ (x : ResourceRow). x.id)) h.resources) ∙ unnamed t wf n missing)

  pub absent_list : (n : ℕ) → resource_of t n ≡ None → find (owns (λ (l : BookingList). l.number) n) i.standing ≡ None
  absent_list n missing = none_found (λ (l : BookingList). l.number) n i.standing (ap (list_any (λ k. k == n)) (ap (map (λ (l : BookingList). l.number)) h.index.standing ∙ map_map (λ (l : BookingList). l.number) (list_of (λ (b : BookingRow). b.resource) s.bookings) (resource_numbers s) ∙ map_itself (resource_numbers s) ∙ ap (map (λ (x : ResourceRow). x.id)) h.resources) ∙ unnamed t wf n missing)

  -- ---- one that is put

  module _ (x : ResourceRow) where
    abbrev with_resource : Tables
    with_resource = with_row s (Resource x)

    ids : resource_numbers with_resource ≡ numbers_with x.id (resource_numbers s)
    ids = ids_put (λ (y : ResourceRow). y.id) (λ (y : ResourceRow). key_of (Resource y)) x (λ y. resource_below y.id x.id) (λ y. resource_below x.id y.id) s.resources

    sorts : (r : ℕ) → (r == x.id) ≡ false → sort_of with_resource r ≡ sort_of s r
    sorts r e = sort_beside s with_resource x.id (beside_put Resource x s.resources rise) r e

    own_sort : sort_of with_resource x.id ≡ sort_of_kind x.kind
    own_sort = ap (λ o. option_map_or (λ (y : ResourceRow). sort_of_kind y.kind) o unknown)
        (found_own (λ (y : ResourceRow). y.id) with_resource.resources x (subst (IsStrictlySortedBy nat_cmp) (sym ids) (numbers_rise_with x.id (resource_numbers s) climb)) (in_new (λ (y : ResourceRow). key_of (Resource y)) x s.resources))

    -- in the place of one of the same sort
    pub put_over : (former : ResourceRow) → resource_of t x.id ≡ Some former → sort_of_kind former.kind ≡ sort_of_kind x.kind → IsIndexOf with_resource i
    put_over former f e = record {
      weights = record {
        numbers = h.index.weights.numbers ∙ sym stay;
        each = all_from (λ (w : Weight). IsWeightOf with_resource w.resource w.weight) i.weights (λ w k.
            let o = all_at (λ (w : Weight). IsWeightOf s w.resource w.weight) i.weights w h.index.weights.each k in
            record { begin = o.begin; end = o.end; weight_at = λ m l u. o.weight_at m l u ∙ ap pos (sym (weight_alike s with_resource (λ r. ◌≡◌ {A = ℕ} r r) (λ r p. all_sorts r) refl s.bookings w.resource m refl (λ b j. refl))) });
      };
      standing = h.index.standing ∙ sym (ap (λ ns. lists_of (λ (b : BookingRow). b.resource) ns s.bookings) stay);
      booked = h.index.booked;
      members = record { each = h.index.members.each };
    }
      where
        there : list_any (λ k. k == x.id) (resource_numbers s) ≡ true
        there = ap (λ (l : List ResourceRow). list_any (λ k. k == x.id) (map (λ (y : ResourceRow). y.id) l)) h.resources ∙ sym (is_found (λ (y : ResourceRow). y.id) x.id t.resources) ∙ ap is_some f

        stay : resource_numbers with_resource ≡ resource_numbers s
        stay = ids ∙ numbers_stay x.id (resource_numbers s) climb (named_in x.id (resource_numbers s) there)

        former_sort : sort_of s x.id ≡ sort_of_kind x.kind
        former_sort = ap (λ o. option_map_or (λ (y : ResourceRow). sort_of_kind y.kind) o unknown) (ap (λ (l : List ResourceRow). find (λ (y : ResourceRow). y.id == x.id) l) h.resources ∙ f) ∙ e

        all_sorts : (r : ℕ) → sort_of with_resource r ≡ sort_of s r
        all_sorts r = by (r == x.id) refl
          where
            by : (b : Bool) → (r == x.id) ≡ b → sort_of with_resource r ≡ sort_of s r
            by true g = subst (λ k. sort_of with_resource k ≡ sort_of s k) (sym (equal r x.id g)) (own_sort ∙ sym former_sort)
            by false g = sorts r g

    -- as a new one
    module _ (j : IndexParts) (new : resource_of t x.id ≡ None) (a : IsWeightAdded x.id i.weights j.weights) (b : j.standing ≡ rows_with (λ (l : BookingList). l.number) x.id (record { number = x.id; bookings = [] }) i.standing) (c : j.booked ≡ i.booked) (d : j.members ≡ i.members) where
      off : (y : BookingRow) → IsIn y s.bookings → (y.resource == x.id) ≡ false
      off y k = none_stands x.id new y k

      numbers_put : map (λ (w : Weight). w.resource) j.weights ≡ numbers_with x.id (resource_numbers s)
      numbers_put = ap (map (λ (w : Weight). w.resource)) a.rows ∙ with_numbers (λ (w : Weight). w.resource) x.id (record { resource = x.id; weight = a.weight }) i.weights refl ∙ ap (numbers_with x.id) h.index.weights.numbers

      own : IsWeightOf with_resource x.id a.weight
      own = record {
        begin = a.nothing.begin;
        end = a.nothing.end;
        weight_at = λ m l u. a.nothing.values m l u ∙ ap pos (sym (weighs_nothing with_resource x.id m (ap (of_member x.id) h.members ∙ no_membership t wf x.id new) (ap (λ (l : List MemberRow). map (λ (y : MemberRow). y.member) (filter (λ (y : MemberRow). (y.group == x.id) && covers y.from y.to m) l)) h.members ∙ no_member t wf x.id new m) s.bookings off));
      }

      each_of : (w : Weight) → IsIn w j.weights → (IsIn w i.weights × ((w.resource == x.id) ≡ false)) ⊎ IsWeightOf with_resource w.resource w.weight
      each_of w k = elim (in-append w (filter (λ (w : Weight). nat_lt w.resource x.id) i.weights) (record { resource = x.id; weight = a.weight } ∷ filter (λ (w : Weight). nat_lt x.id w.resource) i.weights) (subst (IsIn w) a.rows k)) [
        | inl l ↦ (let g = in-filter (λ (w : Weight). nat_lt w.resource x.id) w i.weights l in inl (g.0, under_other w.resource x.id g.1))
        | inr (inl e) ↦ inr (subst (λ (w : Weight). IsWeightOf with_resource w.resource w.weight) (sym e) own)
        | inr (inr l) ↦ (let g = in-filter (λ (w : Weight). nat_lt x.id w.resource) w i.weights l in inl (g.0, over_other w.resource x.id g.1))
      ]

      none : filter (owns (λ (y : BookingRow). y.resource) x.id) s.bookings ≡ []
      none = none_pass (owns (λ (y : BookingRow). y.resource) x.id) s.bookings off

      lists : j.standing ≡ lists_of (λ (y : BookingRow). y.resource) (numbers_with x.id (resource_numbers s)) s.bookings
      lists = b ∙ ap (rows_with (λ (l : BookingList). l.number) x.id (record { number = x.id; bookings = [] })) h.index.standing ∙ lists_with (λ (y : BookingRow). y.resource) x.id (resource_numbers s) s.bookings none

      pub put_new : IsIndexOf with_resource j
      put_new = record {
        weights = weights_beside s with_resource x.id refl refl sorts off i.weights j.weights h.index.weights (numbers_put ∙ sym ids) each_of;
        standing = lists ∙ sym (ap (λ ns. lists_of (λ (y : BookingRow). y.resource) ns s.bookings) ids);
        booked = c ∙ h.index.booked;
        members = record { each = λ r. ap (of_member r) d ∙ h.index.members.each r };
      }

      pub order_put : IsOrdered j
      order_put = (
        subst (IsStrictlySortedBy nat_cmp) (sym numbers_put) (numbers_rise_with x.id (resource_numbers s) climb),
        subst (λ (l : List BookingList). IsStrictlySortedBy nat_cmp (map (λ (l : BookingList). l.number) l)) (sym lists) (lists_climb (λ (y : BookingRow). y.resource) (numbers_with x.id (resource_numbers s)) s.bookings (numbers_rise_with x.id (resource_numbers s) climb)),
        subst (λ (l : List BookingList). IsStrictlySortedBy nat_cmp (map (λ (l : BookingList). l.number) l)) (sym c) h.order.2,
      )

  -- ---- one that is taken out

  module _ (n : ℕ) where
    abbrev without_resource : Tables
    without_resource = without_row s ResourceTable (id_key ResourceTable n)

    ids_left : resource_numbers without_resource ≡ numbers_without n (resource_numbers s)
    ids_left = ids_taken (λ (y : ResourceRow). y.id) (λ (y : ResourceRow). key_of (Resource y)) (id_key ResourceTable n) n (λ y. resource_below y.id n) (λ y. resource_below n y.id) s.resources

    -- where its list is empty
    empty_off : list_under n i.standing ≡ [] → (y : BookingRow) → IsIn y s.bookings → (y.resource == n) ≡ false
    empty_off e y k = by (y.resource == n) refl
      where
        of_t : list_any (λ m. m == y.resource) (resource_numbers s) ≡ true
        of_t =
            let u = all_at (IsUsable t) s.bookings y h.usable k in
            ap (λ (l : List ResourceRow). list_any (λ m. m == y.resource) (map (λ (z : ResourceRow). z.id) l)) h.resources ∙ sym (is_found (λ (z : ResourceRow). z.id) y.resource t.resources) ∙ u.there

        listed : cond (list_any (λ m. m == n) (resource_numbers s)) (filter (owns (λ (z : BookingRow). z.resource) n) s.bookings) [] ≡ []
        listed = sym (under (λ (z : BookingRow). z.resource) n (resource_numbers s) s.bookings) ∙ sym (ap (list_under n) h.index.standing) ∙ e

        by : (b : Bool) → (y.resource == n) ≡ b → b ≡ false
        by false g = refl
        by true g =
            let there = subst (λ m. list_any (λ k. k == m) (resource_numbers s) ≡ true) (equal y.resource n g) of_t in
            let nothing = sym (ap (λ c. cond c (filter (owns (λ (z : BookingRow). z.resource) n) s.bookings) []) there) ∙ listed in
            absurd (subst (IsIn y) nothing (in_filtered (owns (λ (z : BookingRow). z.resource) n) y s.bookings k g))

    module _ (j : IndexParts) (e : list_under n i.standing ≡ []) (a : j.weights ≡ rows_off (λ (w : Weight). w.resource) n i.weights) (b : j.standing ≡ rows_off (λ (l : BookingList). l.number) n i.standing) (c : j.booked ≡ i.booked) (d : j.members ≡ i.members) where
      numbers_off : map (λ (w : Weight). w.resource) j.weights ≡ numbers_without n (resource_numbers s)
      numbers_off = ap (map (λ (w : Weight). w.resource)) a ∙ off_numbers (λ (w : Weight). w.resource) n i.weights ∙ ap (numbers_without n) h.index.weights.numbers

      lists_left : j.standing ≡ lists_of (λ (y : BookingRow). y.resource) (numbers_without n (resource_numbers s)) s.bookings
      lists_left = b ∙ ap (rows_off (λ (l : BookingList). l.number) n) h.index.standing ∙ lists_off (λ (y : BookingRow). y.resource) n (resource_numbers s) s.bookings

      pub taken_index : IsIndexOf without_resource j
      taken_index = record {
        weights = weights_beside s without_resource n refl refl (sort_beside s without_resource n (beside_taken Resource (id_key ResourceTable n) s.resources rise)) (empty_off e) i.weights j.weights h.index.weights (numbers_off ∙ sym ids_left)
            (λ w k. inl (in-off (λ (w : Weight). w.resource) n i.weights w (subst (IsIn w) a k)));
        standing = lists_left ∙ sym (ap (λ ns. lists_of (λ (y : BookingRow). y.resource) ns s.bookings) ids_left);
        booked = c ∙ h.index.booked;
        members = record { each = λ r. ap (of_member r) d ∙ h.index.members.each r };
      }

      pub taken_order : IsOrdered j
      taken_order = (
        subst (IsStrictlySortedBy nat_cmp) (sym numbers_off) (numbers_rise_without n (resource_numbers s) climb),
        subst (λ (l : List BookingList). IsStrictlySortedBy nat_cmp (map (λ (l : BookingList). l.number) l)) (sym lists_left) (lists_climb (λ (y : BookingRow). y.resource) (numbers_without n (resource_numbers s)) s.bookings (numbers_rise_without n (resource_numbers s) climb)),
        subst (λ (l : List BookingList). IsStrictlySortedBy nat_cmp (map (λ (l : BookingList). l.number) l)) (sym c) h.order.2,
      )
