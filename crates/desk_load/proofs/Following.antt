-- An index that follows a change, one row after another.
use Rattle.std.proofs.Common.{◌≡◌, ◌≢◌, ℕ, suc, ◌+◌, ◌-◌, ◌*◌, ◌<◌, ◌≤◌, Bool, true, false, cond, ◌==◌, List, [], ◌∷◌, map, length, Some, None, is_some, ◌⊎◌, inl, inr, pos, neg_ℤ, ◌+ℤ◌, refl, sym, ap, ◌∙◌, subst, arith, length-append}
use Rattle.std.proofs.lemmas.Int.{ints}
use Rattle.std.proofs.lemmas.List.{length-map}
use Rattle.std.proofs.lemmas.List.Sums.{sum_by-cons}
use Rattle.std.proofs.lemmas.Bool.{false≢true}
use Rattle.std.proofs.lemmas.Bool.Decides.{nat_tests}
use Rattle.std.specs.Prelude.{filter, find, Contains, nat_le}
use Rattle.std.specs.Ordering.{nat_cmp}
use Rattle.std.specs.List.{AllByRecursion, list_any, list_all}
use Rattle.std.specs.List.Sorted.{IsStrictlySortedBy}
use Rattle.desk_base.specs.declared.rows.tables.Tables.{Tables}
use Rattle.desk_base.specs.declared.rows.tables.Key.{Key}
use Rattle.desk_base.specs.declared.rows.tables.AnyRow.TheVariants.{Booking}
use Rattle.desk_base.specs.declared.rows.tables.Table.TheVariants.{Booking as BookingTable}
use Rattle.desk_base.specs.declared.rows.bookings.BookingRow.{BookingRow}
use Rattle.desk_base.specs.declared.rows.resources.ResourceRow.{ResourceRow}
use Rattle.desk_base.specs.declared.rows.groups.GroupRow.{GroupRow}
use Rattle.desk_base.specs.declared.asked.acts.Change.{Change}
use Rattle.desk_base.specs.rows.Keys.{id_key}
use Rattle.desk_base.specs.rows.Ranges.{owns}
use Rattle.desk_base.specs.rules.Limits.{first_minute, end_of_minutes, effort_limit}
use Rattle.desk_base.specs.rules.Sound.{AreWellFormed}
use Rattle.desk_base.specs.meaning.Efforts.{is_light, AreLight}
use Rattle.desk_base.specs.meaning.Load.{load, weight, ask_of}
use Rattle.desk_base.specs.changes.Changes.{rows_below, rows_above, with_row, without_row, with_one, without_one, with_rows, without_keys, with_change}
use Rattle.desk_base.proofs.lists.Members.{IsIn, all_from, all_at, contains_from_in, in_from_contains, in-filter, in_filtered}
use Rattle.desk_base.proofs.lists.Tests.{and_both, and_left}
use Rattle.desk_base.proofs.tables.WithOne.{in-with_one, length_more}
use Rattle.desk_base.proofs.tables.KeyRises.{rise-with_one, rise-without_one}
use Rattle.desk_base.proofs.tables.TakenRows.{one_row}
use Rattle.desk_base.proofs.meaning.Efforts.{weight_light, some_light}
use Rattle.desk_spans.specs.Timeline.{value_limit, IsBounded}
use Rattle.desk_member.specs.Memberships.{AreMemberships, of_member}
use Rattle.desk_load.specs.declared.changes.turns.Turn.{Turn}
use Rattle.desk_load.specs.declared.changes.turns.Turn.TheVariants.{Comes, Goes}
use Rattle.desk_load.specs.declared.lists.BookingList.{BookingList}
use Rattle.desk_load.specs.Effects.{KeepIndexed}
use Rattle.desk_load.specs.Parted.{IndexParts}
use Rattle.desk_load.specs.Index.{IsIndexOf, resource_numbers, group_numbers}
use Rattle.desk_load.specs.Lists.{lists_of, list_under}
use Rattle.desk_load.specs.Parts.{IsAskable}
use Rattle.desk_load.specs.Changed.{IsOrdered}
use Rattle.desk_load.specs.Turns.{turned, value_under, relisted, IsTurned}
use Rattle.desk_load.specs.declared.changes.follow.Phase.{Phase}
use Rattle.desk_load.specs.declared.changes.follow.Phase.TheVariants.{Open, Closed}
use Rattle.desk_load.specs.Stages.{IsUsable, IsStage, IsPhase, most_bookings}
use Rattle.desk_load.proofs.Numbers.{keys_climb}
use Rattle.desk_load.proofs.Keeping.{load_same, weight_same, index_kept}
use Rattle.desk_load.proofs.Reading.{under}
use Rattle.desk_load.proofs.Standing.{standing_askable}
use Rattle.desk_load.proofs.Weighed.{few_members, more_times}
use Rattle.desk_load.proofs.Reweighed.{is_found, under_is, numbers_rise, raised_weights, weight_with}
use Rattle.desk_load.proofs.Relisted.{came_lists, went_lists, relisted_numbers}
use Rattle.desk_load.proofs.OneBooking.{key, BookingsRise, stands, absent, in_without, without_twice, with_without, with_is, without_is}

-- ---- the tables with other bookings

abbrev with_bookings : Tables → List BookingRow → Tables
with_bookings s bs = record s { bookings = bs }

module _ (t s : Tables) (turn : Turn) (b : BookingRow) (new : List BookingRow) (i j : IndexParts) where
  turned_index : s.resources ≡ t.resources → IsIndexOf s i → IsOrdered i → IsTurned t turn b i j
      → ((r m : ℕ) → pos (weight (with_bookings s new) (map ask_of new) r m) ≡ pos (weight s (map ask_of s.bookings) r m) +ℤ turned turn (load t r m (ask_of b)))
      → ((f : BookingRow → ℕ) (numbers : List ℕ) → relisted turn (f b) b (lists_of f numbers s.bookings) ≡ lists_of f numbers new)
      → IsIndexOf (with_bookings s new) j
  turned_index e h o c w l = record {
    weights = raised_weights s (with_bookings s new) (λ r m. turned turn (load t r m (ask_of b))) i.weights j.weights refl o.0 h.weights c.weights w;
    standing = c.standing ∙ ap (relisted turn b.resource b) h.standing ∙ l (λ (x : BookingRow). x.resource) (resource_numbers s);
    booked = c.booked ∙ ap (relisted turn b.group b) h.booked ∙ l (λ (x : BookingRow). x.group) (group_numbers s);
    members = record { each = λ r. ap (of_member r) c.members ∙ h.members.each r };
  }

  turned_order : IsOrdered i → IsTurned t turn b i j → IsOrdered j
  turned_order o c = (
    numbers_rise i.weights j.weights c.weights.numbers o.0,
    subst (IsStrictlySortedBy nat_cmp) (sym (ap (map (λ (l : BookingList). l.number)) c.standing ∙ relisted_numbers turn b.resource b i.standing)) o.1,
    subst (IsStrictlySortedBy nat_cmp) (sym (ap (map (λ (l : BookingList). l.number)) c.booked ∙ relisted_numbers turn b.group b i.booked)) o.2,
  )

-- ---- what the bookings weigh

module _ (t s : Tables) (b : BookingRow) (er : s.resources ≡ t.resources) (em : s.members ≡ t.members) where
  came_weight : without_one key (key b) s.bookings ≡ s.bookings → (r m : ℕ) → pos (weight (with_bookings s (with_one key b s.bookings)) (map ask_of (with_one key b s.bookings)) r m) ≡ pos (weight s (map ask_of s.bookings) r m) +ℤ turned Comes (load t r m (ask_of b))
  came_weight none r m =
      let a = weight_same (with_bookings s (with_one key b s.bookings)) s refl refl (map ask_of (with_one key b s.bookings)) r m in
      let c = weight_with s b s.bookings r m in
      let d = ap (λ l. weight s (map ask_of l) r m) none in
      let e = load_same s t er em r m (ask_of b) in
      ap pos (omega (arith, a, c, d, e))

  went_weight : with_one key b s.bookings ≡ s.bookings → (r m : ℕ) → pos (weight (with_bookings s (without_one key (key b) s.bookings)) (map ask_of (without_one key (key b) s.bookings)) r m) ≡ pos (weight s (map ask_of s.bookings) r m) +ℤ turned Goes (load t r m (ask_of b))
  went_weight all r m =
      let a = weight_same (with_bookings s (without_one key (key b) s.bookings)) s refl refl (map ask_of (without_one key (key b) s.bookings)) r m in
      let c = weight_with s b s.bookings r m in
      let d = ap (λ l. weight s (map ask_of l) r m) all in
      let e = load_same s t er em r m (ask_of b) in
      omega (arith, ints, a, c, d, e)

  -- one that stands weighs no more than all
  pub own_weight : BookingsRise s.bookings → IsIn b s.bookings → (r m : ℕ) → load t r m (ask_of b) ≤ weight s (map ask_of s.bookings) r m
  own_weight rise i r m =
      let c = weight_with s b s.bookings r m in
      let d = ap (λ l. weight s (map ask_of l) r m) (stands b s.bookings rise i) in
      let e = load_same s t er em r m (ask_of b) in
      omega (arith, c, d, e)

-- ---- how much they may weigh

within : (m n : ℕ) → m ≤ n → nat_le m n ≡ true
within m n h = grind (arith, nat_tests)

light_asks : (t : Tables) (bs : List BookingRow) → AllByRecursion (IsUsable t) bs → AreLight (map ask_of bs)
light_asks t [] h = refl
light_asks t (b ∷ bs) h = and_both (is_light (ask_of b)) (list_all is_light (map ask_of bs)) (within b.effort effort_limit h.0.light) (light_asks t bs h.1)

few_weight : (t s : Tables) (bs : List BookingRow) (r m : ℕ) → AreWellFormed t → s.members ≡ t.members → AllByRecursion (IsUsable t) bs → length bs ≤ most_bookings → weight s (map ask_of bs) r m ≤ value_limit
few_weight t s bs r m w e u l =
    let a = weight_light s (map ask_of bs) r m (light_asks t bs u) in
    let n = length-map bs ask_of in
    let k = ap length e in
    let f = few_members t w in
    let b = more_times (length (map ask_of bs)) 4000000 ((length s.members + 1) * effort_limit) (omega (arith, n, l)) in
    let c = more_times (length s.members + 1) 20001 effort_limit (omega (arith, k, f)) in
    omega (arith, a, b, c)

bounded_less : (w n : ℕ) → n ≤ w → w ≤ value_limit → IsBounded (pos w +ℤ neg_ℤ (pos n))
bounded_less w n h l = let e : pos w +ℤ neg_ℤ (pos n) ≡ pos (w - n) = omega (arith, ints, h) in subst IsBounded (sym e) (omega (arith, l))

bounded_more : (w n k : ℕ) → n ≤ k → k + w ≤ value_limit → IsBounded (pos w +ℤ pos n)
bounded_more w n k h l = omega (arith, h, l)

fewer : (b : BookingRow) (bs : List BookingRow) → length (without_one key (key b) bs) ≤ length bs
fewer b bs =
    let a = length_more key b bs in
    let c = ap length (with_is b bs) ∙ length-append (rows_below key (key b) bs) (b ∷ rows_above key (key b) bs) in
    let d = ap length (without_is (key b) bs) ∙ length-append (rows_below key (key b) bs) (rows_above key (key b) bs) in
    omega (arith, a, c, d)

-- ---- finding

pub found_one : {A : Type 0} (p : A → Bool) (xs : List A) (x : A) → find p xs ≡ Some x → IsIn x xs × (p x ≡ true)
found_one p [] x e = cc
found_one {A} p (y ∷ ys) x e = step (p y) refl e (found_one p ys x)
  where
    step : (b : Bool) → p y ≡ b → cond b (Some y) (find p ys) ≡ Some x → (find p ys ≡ Some x → IsIn x ys × (p x ≡ true)) → IsIn x (y ∷ ys) × (p x ≡ true)
    step true g f h = let k : y ≡ x = cc in (inl (sym k), ap p (sym k) ∙ g)
    step false g f h = (inr (h f).0, (h f).1)

pub found_none : {A : Type 0} (p : A → Bool) (xs : List A) (x : A) → find p xs ≡ None → IsIn x xs → p x ≡ true → ⊥
found_none p [] x e i f = i
found_none {A} p (y ∷ ys) x e i f = step (p y) refl e i (found_none p ys x)
  where
    step : (b : Bool) → p y ≡ b → cond b (Some y) (find p ys) ≡ None → IsIn x (y ∷ ys) → (find p ys ≡ None → IsIn x ys → p x ≡ true → ⊥) → ⊥
    step true g k j h = let z : true ≡ false = ap is_some k in false≢true (sym z)
    step false g k (inl j) h = false≢true (sym g ∙ ap p (sym j) ∙ f)
    step false g k (inr j) h = h k j f

same : (a b : ℕ) → a ≡ b → (a == b) ≡ true
same a b e = grind (arith, nat_tests)

equal : (a b : ℕ) → (a == b) ≡ true → a ≡ b
equal a b e = grind (arith, nat_tests)

-- ---- stages

module _ (t s : Tables) (next more : ℕ) (i : IndexParts) (h : IsStage t s next more i) where
  -- a booking that stands goes
  pub went : (b : BookingRow) (j : IndexParts) → IsIn b s.bookings → IsTurned t Goes b i j → IsStage t (without_row s BookingTable (key b)) next more j
  went b j k c =
      let bs = without_one key (key b) s.bookings in
      record {
        resources = h.resources;
        members = h.members;
        groups = h.groups;
        rise = rise-without_one Booking (key b) s.bookings h.rise;
        usable = all_from (IsUsable t) bs (λ y l. all_at (IsUsable t) s.bookings y h.usable (in_without (key b) y s.bookings l));
        known = all_from (λ (y : BookingRow). (y.id < next) ⊎ Contains t.bookings y) bs (λ y l. all_at (λ (y : BookingRow). (y.id < next) ⊎ Contains t.bookings y) s.bookings y h.known (in_without (key b) y s.bookings l));
        few = let f = fewer b s.bookings in let g = h.few in omega (arith, f, g);
        index = turned_index t s Goes b bs i j h.resources h.index h.order c (went_weight t s b h.resources h.members (stands b s.bookings h.rise k)) (λ f ns. went_lists f b ns s.bookings h.rise k);
        order = turned_order t s Goes b bs i j h.order c;
      }

  -- none stands under the key
  pub gone : (k : Key) → ((y : BookingRow) → IsIn y s.bookings → key y ≢ k) → IsStage t (without_row s BookingTable k) next more i
  gone k none = subst (λ bs. IsStage t (with_bookings s bs) next more i) (sym (absent k s.bookings h.rise none)) h

  -- what is in the list of a resource stands
  pub listed_stands : (r : ℕ) (y : BookingRow) → IsIn y (list_under r i.standing) → IsIn y s.bookings
  listed_stands r y k = step (list_any (λ n. n == r) (resource_numbers s)) (subst (IsIn y) (ap (list_under r) h.index.standing ∙ under (λ (x : BookingRow). x.resource) r (resource_numbers s) s.bookings) k)
    where
      step : (c : Bool) → IsIn y (cond c (filter (owns (λ (x : BookingRow). x.resource) r) s.bookings) []) → IsIn y s.bookings
      step true l = (in-filter (owns (λ (x : BookingRow). x.resource) r) y s.bookings l).0
      step false l = absurd l

  -- and what stands is in the list of its resource
  stands_listed : (y : BookingRow) → IsIn y s.bookings → IsIn y (list_under y.resource i.standing)
  stands_listed y k =
      let u = all_at (IsUsable t) s.bookings y h.usable k in
      let named : list_any (λ n. n == y.resource) (resource_numbers s) ≡ true = ap (λ (l : List ResourceRow). list_any (λ n. n == y.resource) (map (λ (x : ResourceRow). x.id) l)) h.resources ∙ sym (is_found (λ (x : ResourceRow). x.id) y.resource t.resources) ∙ u.there in
      subst (IsIn y) (sym (ap (list_under y.resource) h.index.standing ∙ under (λ (x : BookingRow). x.resource) y.resource (resource_numbers s) s.bookings ∙ ap (λ c. cond c (filter (owns (λ (x : BookingRow). x.resource) y.resource) s.bookings) []) named))
      (in_filtered (owns (λ (x : BookingRow). x.resource) y.resource) y s.bookings k (same y.resource y.resource refl))

  -- a booking of a number from `next` on is one of t
  known_in : (id : ℕ) (y : BookingRow) → next ≤ id → IsIn y s.bookings → y.id ≡ id → IsIn y t.bookings
  known_in id y l k e = elim (all_at (λ (y : BookingRow). (y.id < next) ⊎ Contains t.bookings y) s.bookings y h.known k) [
    | inl m ↦ absurd (omega (arith, m, e, l))
    | inr c ↦ in_from_contains t.bookings y c
  ]

  -- where t has none of the number, none stands
  pub none_known : (id : ℕ) → next ≤ id → find (λ (x : BookingRow). x.id == id) t.bookings ≡ None → (y : BookingRow) → IsIn y s.bookings → key y ≢ id_key BookingTable id
  none_known id l f y k e =
      let n : y.id ≡ id = ap (λ (k : Key). k.a) e in
      found_none (λ (x : BookingRow). x.id == id) t.bookings y f (known_in id y l k n) (same y.id id n)

  -- and where the list of the resource of the one of t has none of the number
  pub none_listed : (id : ℕ) (former : BookingRow) → AreWellFormed t → next ≤ id → find (λ (x : BookingRow). x.id == id) t.bookings ≡ Some former → ((y : BookingRow) → IsIn y (list_under former.resource i.standing) → y.id ≢ id) → (y : BookingRow) → IsIn y s.bookings → key y ≢ id_key BookingTable id
  none_listed id former w l f none y k e =
      let n : y.id ≡ id = ap (λ (k : Key). k.a) e in
      let g = found_one (λ (x : BookingRow). x.id == id) t.bookings former f in
      let o : y ≡ former = one_row Booking t.bookings y former (keys_climb t w BookingTable) (known_in id y l k n) g.0 (ap (id_key BookingTable) (n ∙ sym (equal former.id id g.1))) in
      none y (subst (λ r. IsIn y (list_under r i.standing)) (ap (λ (x : BookingRow). x.resource) o) (stands_listed y k)) n

  -- what is found in the list of a resource stands, under its number
  pub taken_stands : (id r : ℕ) (found : BookingRow) (rows : List BookingRow) → rows ≡ list_under r i.standing → find (λ (x : BookingRow). x.id == id) rows ≡ Some found → IsIn found s.bookings × (found.id ≡ id)
  taken_stands id r found rows e f =
      let g = found_one (λ (x : BookingRow). x.id == id) rows found f in
      (listed_stands r found (subst (IsIn found) e g.0), equal found.id id g.1)

  -- and where nothing is found there, none stands
  pub none_taken : (id : ℕ) (former : BookingRow) (rows : List BookingRow) → AreWellFormed t → next ≤ id → find (λ (x : BookingRow). x.id == id) t.bookings ≡ Some former → rows ≡ list_under former.resource i.standing → find (λ (x : BookingRow). x.id == id) rows ≡ None → IsStage t (without_row s BookingTable (id_key BookingTable id)) next more i
  none_taken id former rows w l f e n = gone (id_key BookingTable id) (none_listed id former w l f (λ y k z. found_none (λ (x : BookingRow). x.id == id) rows y n (subst (IsIn y) (sym e) k) (same y.id id z)))

  -- what may go without a value out of bounds
  pub went_bounds : (b : BookingRow) → AreWellFormed t → IsIn b s.bookings → (n r m : ℕ) → first_minute ≤ m → m < end_of_minutes → n ≤ load t r m (ask_of b) → IsBounded (value_under r m i.weights +ℤ turned Goes n)
  went_bounds b w k n r m l u d =
      let f = h.few in
      subst (λ z. IsBounded (z +ℤ neg_ℤ (pos n))) (sym (under_is s i.weights r m h.index.weights l u))
      (bounded_less (weight s (map ask_of s.bookings) r m) n (let o = own_weight t s b h.resources h.members h.rise k r m in omega (arith, o, d)) (few_weight t s s.bookings r m w h.members h.usable (omega (arith, f))))

  pub stage_memberships : AreMemberships t i.members
  stage_memberships = record { each = λ r. h.index.members.each r ∙ ap (of_member r) h.members }

  pub stage_usable : (b : BookingRow) → IsIn b s.bookings → IsUsable t b
  stage_usable b k = all_at (IsUsable t) s.bookings b h.usable k

module _ (t s : Tables) (next more : ℕ) (i : IndexParts) (b : BookingRow) (h : IsStage t s next (suc more) i) where
  -- a booking comes under a number of which none stands
  pub came : (j : IndexParts) → next ≤ b.id → IsUsable t b → without_one key (key b) s.bookings ≡ s.bookings → IsTurned t Comes b i j → IsStage t (with_row s (Booking b)) (suc b.id) more j
  came j l u none c =
      let bs = with_one key b s.bookings in
      record {
        resources = h.resources;
        members = h.members;
        groups = h.groups;
        rise = rise-with_one Booking b s.bookings h.rise;
        usable = all_from (IsUsable t) bs (λ y k. elim (in-with_one key b y s.bookings k) [ inl e ↦ subst (IsUsable t) (sym e) u | inr g ↦ all_at (IsUsable t) s.bookings y h.usable g.0 ]);
        known = all_from (λ (y : BookingRow). (y.id < suc b.id) ⊎ Contains t.bookings y) bs (λ y k. elim (in-with_one key b y s.bookings k) [
          | inl e ↦ inl (let f = ap (λ (z : BookingRow). z.id) e in omega (arith, f))
          | inr g ↦ elim (all_at (λ (y : BookingRow). (y.id < next) ⊎ Contains t.bookings y) s.bookings y h.known g.0) [ inl m ↦ inl (omega (arith, m, l)) | inr d ↦ inr d ]
        ]);
        few = let f = length_more key b s.bookings in let g = h.few in omega (arith, f, g);
        index = turned_index t s Comes b bs i j h.resources h.index h.order c (came_weight t s b h.resources h.members none) (λ f ns. came_lists f b ns s.bookings none);
        order = turned_order t s Comes b bs i j h.order c;
      }

  pub came_bounds : AreWellFormed t → IsUsable t b → (n r m : ℕ) → first_minute ≤ m → m < end_of_minutes → n ≤ load t r m (ask_of b) → IsBounded (value_under r m i.weights +ℤ turned Comes n)
  came_bounds w u n r m l k d =
      let f = h.few in
      let c = sum_by-cons (load s r m) (ask_of b) (map ask_of s.bookings) in
      let e = load_same s t h.resources h.members r m (ask_of b) in
      let g = few_weight t s (b ∷ s.bookings) r m w h.members (u, h.usable) (omega (arith, f)) in
      subst (λ z. IsBounded (z +ℤ pos n)) (sym (under_is s i.weights r m h.index.weights l k))
      (bounded_more (weight s (map ask_of s.bookings) r m) n (load t r m (ask_of b)) d (omega (arith, c, e, g)))

-- a booking that is put after the one of its number went
pub put_after : (t s : Tables) (next more : ℕ) (i j k : IndexParts) (b : BookingRow) → next ≤ b.id → IsUsable t b → IsStage t (without_row s BookingTable (key b)) next (suc more) j → IsTurned t Comes b j k → IsStage t (with_row s (Booking b)) (suc b.id) more k
put_after t s next more i j k b l u h c =
    subst (λ bs. IsStage t (with_bookings s bs) (suc b.id) more k) (with_without b s.bookings)
    (came t (without_row s BookingTable (key b)) next more j b h k l u (without_twice (key b) s.bookings) c)

-- rows that are not indexed
pub stage_kept : (t s u : Tables) (next more : ℕ) (i : IndexParts) → KeepIndexed s u → IsStage t s next more i → IsStage t u next more i
stage_kept t s u next more i k h = record {
  resources = k.resources ∙ h.resources;
  members = k.members ∙ h.members;
  groups = λ n e. subst (λ (gs : List GroupRow). list_any (λ m. m == n) (map (λ (g : GroupRow). g.id) gs) ≡ true) (sym k.groups) (h.groups n e);
  rise = subst BookingsRise (sym k.bookings) h.rise;
  usable = subst (AllByRecursion (IsUsable t)) (sym k.bookings) h.usable;
  known = subst (AllByRecursion (λ (y : BookingRow). (y.id < next) ⊎ Contains t.bookings y)) (sym k.bookings) h.known;
  few = subst (λ (bs : List BookingRow). length bs + more ≤ most_bookings) (sym k.bookings) h.few;
  index = index_kept s u i k h.index;
  order = h.order;
}

pub phase_kept : (t s u : Tables) (p : Phase) (more : ℕ) (i : IndexParts) → KeepIndexed s u → IsPhase t s p more i → IsPhase t u p more i
phase_kept t s u (Open next) more i k h = stage_kept t s u next more i k h
phase_kept t s u Closed more i k h = (index_kept s u i k h.0, h.1)

pub stage_fewer : (t s : Tables) (next more : ℕ) (i : IndexParts) → IsStage t s next (suc more) i → IsStage t s next more i
stage_fewer t s next more i h = record {
  resources = h.resources;
  members = h.members;
  groups = h.groups;
  rise = h.rise;
  usable = h.usable;
  known = h.known;
  few = let f = h.few in omega (arith, f);
  index = h.index;
  order = h.order;
}

light_is : (m n : ℕ) → nat_le m n ≡ true → m ≤ n
light_is m n h = grind (arith, nat_tests)

-- where it begins
pub first_stage : (t : Tables) (more : ℕ) (i : IndexParts) → AreWellFormed t → IsIndexOf t i → IsOrdered i → length t.bookings + more ≤ most_bookings → IsStage t t 0 more i
first_stage t more i w h o f = record {
  resources = refl;
  members = refl;
  groups = λ n e. e;
  rise = keys_climb t w BookingTable;
  usable = all_from (IsUsable t) t.bookings (λ b k.
      let a = all_at (IsAskable t) t.bookings b (standing_askable t w) k in
      record { there = a.there; not_empty = a.not_empty; light = light_is b.effort effort_limit (and_left (is_light (ask_of b)) true (some_light t (b ∷ []) w (λ y l. elim l [ inl e ↦ subst (λ z. IsIn z t.bookings) (sym e) k | inr n ↦ absurd n ]))) });
  known = all_from (λ (y : BookingRow). (y.id < 0) ⊎ Contains t.bookings y) t.bookings (λ b k. inr (contains_from_in t.bookings b k));
  few = f;
  index = h;
  order = o;
}

-- the counters of a change
pub counted : (t : Tables) (c : Change) (i : IndexParts) → IsIndexOf (with_rows (without_keys t c.removes) c.puts) i → IsIndexOf (with_change t c) i
unfolding with_change
counted t c i h = index_kept (with_rows (without_keys t c.removes) c.puts) (record (with_rows (without_keys t c.removes) c.puts) { revision = c.revision; last_booking = c.last_booking }) i (record { resources = refl; members = refl; groups = refl; bookings = refl }) h
