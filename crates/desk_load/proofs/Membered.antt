-- An index of tables with one membership more, or without one.
use Rattle.std.proofs.Common.{◌≡◌, ℕ, ◌+◌, ◌*◌, Bool, true, false, cond, not, ◌&&◌, ◌||◌, ◌==◌, nat_lt, List, [], ◌∷◌, ◌++◌, map, Some, None, inl, inr, pos, neg_ℤ, ◌+ℤ◌, refl, sym, ap, ◌∙◌, subst, arith}
use Rattle.std.proofs.lemmas.Int.{ints}
use Rattle.std.proofs.lemmas.Bool.{false≢true}
use Rattle.std.proofs.lemmas.Bool.Decides.{nat_tests}
use Rattle.std.proofs.lemmas.List.Elements.{filter-append}
use Rattle.std.specs.Prelude.{filter, find, sum_by, Contains}
use Rattle.std.specs.Ordering.{nat_cmp}
use Rattle.std.specs.List.{list_any}
use Rattle.std.specs.List.Sorted.{IsStrictlySortedBy}
use Rattle.std.specs.Option.{option_map_or}
use Rattle.desk_base.specs.declared.rows.tables.Tables.{Tables}
use Rattle.desk_base.specs.declared.rows.tables.Key.{Key}
use Rattle.desk_base.specs.declared.rows.tables.AnyRow.TheVariants.{Member}
use Rattle.desk_base.specs.declared.rows.tables.Table.TheVariants.{Member as MemberTable}
use Rattle.desk_base.specs.declared.rows.resources.MemberRow.{MemberRow}
use Rattle.desk_base.specs.declared.rows.resources.ResourceRow.{ResourceRow}
use Rattle.desk_base.specs.declared.search.results.Ask.{Ask}
use Rattle.desk_base.specs.rows.Keys.{key_cmp}
use Rattle.desk_base.specs.rows.Lookups.{keys_by}
use Rattle.desk_base.specs.rows.Rows.{key_of}
use Rattle.desk_base.specs.asked.Refusing.{is_key}
use Rattle.desk_base.specs.changes.Changes.{is_below, rows_below, rows_above, with_one, without_one, with_row, without_row}
use Rattle.desk_base.specs.meaning.Time.{covers}
use Rattle.desk_base.specs.meaning.Load.{LoadSort, plain, crew, pool, unknown, sort_of, sort_of_kind, is_crew, members, own_load, plain_load, load, weight, ask_of}
use Rattle.desk_base.proofs.lists.Members.{IsIn, in-filter, in_filtered, in_from_contains, contains_from_in}
use Rattle.desk_base.proofs.lists.Filtered.{pass_both}
use Rattle.desk_base.proofs.lists.Tests.{and_left, and_right}
use Rattle.desk_base.proofs.tables.KeyOrder.{is_key-same}
use Rattle.desk_base.proofs.tables.WithOne.{in-with_one, in_new, in_kept}
use Rattle.desk_base.proofs.tables.KeyRises.{rise-with_one, rise-without_one}
use Rattle.desk_base.proofs.tables.TakenRows.{one_row, same_rows, in-without_one, in_without}
use Rattle.desk_member.specs.Memberships.{of_member, AreMemberships}
use Rattle.desk_member.specs.Pieces.{item_at, taken}
use Rattle.desk_load.specs.declared.weights.Weight.{Weight}
use Rattle.desk_load.specs.declared.changes.links.Links.{Links}
use Rattle.desk_load.specs.declared.changes.turns.Turn.TheVariants.{Comes, Goes}
use Rattle.desk_load.specs.Parted.{IndexParts}
use Rattle.desk_load.specs.Index.{AreWeightsOf, IsIndexOf}
use Rattle.desk_load.specs.Changed.{IsOrdered}
use Rattle.desk_load.specs.Differing.{rows_beside}
use Rattle.desk_load.specs.Turns.{value_under, AreRaised}
use Rattle.desk_load.specs.Links.{times, signed, ask_through, item_through, IsLinkedBy, AreLinks, meets, DifferAtMember}
use Rattle.desk_load.specs.Stages.{IsStage}
use Rattle.desk_base.specs.rules.Sound.{AreWellFormed}
use Rattle.desk_load.proofs.Numbers.{keys_climb}
use Rattle.desk_load.proofs.Following.{found_one, found_none}
use Rattle.desk_load.proofs.Differing.{beside_put, beside_taken}
use Rattle.desk_load.proofs.OneBooking.{filter_swap}
use Rattle.desk_load.proofs.Reweighed.{under_is, raised_weights}
use Rattle.desk_load.proofs.Sharing.{times_pos, times_neg, raised_within}
use Rattle.desk_load.proofs.Linked.{through_pool, through_crew, weight_linked}
use Rattle.desk_load.proofs.Used.{joins, member_by_rows, load_as}

abbrev key : MemberRow → Key
key y = key_of (Member y)

abbrev MembersRise : List MemberRow → Type 0
MembersRise rows = IsStrictlySortedBy key_cmp (keys_by Member rows)

equal : (a b : ℕ) → (a == b) ≡ true → a ≡ b
equal a b e = grind (arith, nat_tests)

same : (a b : ℕ) → a ≡ b → (a == b) ≡ true
same a b e = grind (arith, nat_tests)

-- ---- rows with one more, and without one

pub with_is : (x : MemberRow) (rows : List MemberRow) → with_one key x rows ≡ rows_below key (key x) rows ++ x ∷ rows_above key (key x) rows
unfolding with_one
with_is x rows = refl

pub without_is : (k : Key) (rows : List MemberRow) → without_one key k rows ≡ rows_below key k rows ++ rows_above key k rows
unfolding without_one
without_is k rows = refl

-- one that stands
pub stands : (x : MemberRow) (rows : List MemberRow) → MembersRise rows → IsIn x rows → with_one key x rows ≡ rows
stands x rows s j =
    same_rows Member (with_one key x rows) rows (rise-with_one Member x rows s) s
    (λ z i. elim (in-with_one key x z rows i) [ inl e ↦ subst (λ y. IsIn y rows) (sym e) j | inr h ↦ h.0 ])
    (λ z i. elim (in_kept key x z rows i) [ inl e ↦ subst (λ y. IsIn y (with_one key x rows)) (sym (one_row Member rows z x s i j e)) (in_new key x rows) | inr h ↦ h ])

module _ (x : MemberRow) (rows : List MemberRow) where
  abbrev p : MemberRow → Bool
  p y = y.member == x.member

  below_kept : of_member x.member (rows_below key (key x) rows) ≡ rows_below key (key x) (of_member x.member rows)
  below_kept = filter_swap p (λ (y : MemberRow). is_below (key y) (key x)) rows

  above_kept : of_member x.member (rows_above key (key x) rows) ≡ rows_above key (key x) (of_member x.member rows)
  above_kept = filter_swap p (λ (y : MemberRow). is_below (key x) (key y)) rows

  own_with : of_member x.member (with_one key x rows) ≡ with_one key x (of_member x.member rows)
  own_with =
      let a = below_kept in
      let b = above_kept in
      ap (of_member x.member) (with_is x rows)
      ∙ filter-append p (rows_below key (key x) rows) (x ∷ rows_above key (key x) rows)
      ∙ ap (λ c. of_member x.member (rows_below key (key x) rows) ++ cond c (x ∷ of_member x.member (rows_above key (key x) rows)) (of_member x.member (rows_above key (key x) rows))) (same x.member x.member refl)
      ∙ (λ i. a i ++ x ∷ b i)
      ∙ sym (with_is x (of_member x.member rows))

  own_without : of_member x.member (without_one key (key x) rows) ≡ without_one key (key x) (of_member x.member rows)
  own_without =
      let a = below_kept in
      let b = above_kept in
      ap (of_member x.member) (without_is (key x) rows) ∙ filter-append p (rows_below key (key x) rows) (rows_above key (key x) rows) ∙ (λ i. a i ++ b i) ∙ sym (without_is (key x) (of_member x.member rows))

-- what passes a test that the row of a key does not pass
beside_alike : (k : Key) (q : MemberRow → Bool) → ((y : MemberRow) → q y ≡ true → k ≡ key y → ⊥) → (xs ys : List MemberRow) → rows_beside Member k ys ≡ rows_beside Member k xs → filter q ys ≡ filter q xs
beside_alike k q h xs ys e =
    let pass = λ (y : MemberRow) (f : q y ≡ true). unlike y (h y f) (is_key k (key y)) refl in
    sym (pass_both q (λ (y : MemberRow). not (is_key k (key y))) pass ys) ∙ ap (filter q) e ∙ pass_both q (λ (y : MemberRow). not (is_key k (key y))) pass xs
  where
    unlike : (y : MemberRow) → (k ≡ key y → ⊥) → (b : Bool) → is_key k (key y) ≡ b → not b ≡ true
    unlike y n false f = refl
    unlike y n true f = absurd (n (is_key-same k (key y) f))

others_alike : (x : MemberRow) (r : ℕ) → (x.member == r) ≡ false → (xs ys : List MemberRow) → rows_beside Member (key x) ys ≡ rows_beside Member (key x) xs → of_member r ys ≡ of_member r xs
others_alike x r e xs ys h = beside_alike (key x) (λ (y : MemberRow). y.member == r) (λ y f k. false≢true (sym e ∙ same x.member r (ap (λ (k : Key). k.b) k ∙ equal y.member r f))) xs ys h

module _ (s : Tables) (x : MemberRow) (old new : List MemberRow) (rise : MembersRise s.members) (h : AreMemberships s old) (others : (r : ℕ) → (x.member == r) ≡ false → of_member r new ≡ of_member r old) where
  pub memberships_with : of_member x.member new ≡ with_one key x (of_member x.member old) → AreMemberships (with_row s (Member x)) new
  memberships_with own = record { each = λ r. by r (x.member == r) refl }
    where
      by : (r : ℕ) (b : Bool) → (x.member == r) ≡ b → of_member r new ≡ of_member r (with_one key x s.members)
      by r true e = subst (λ n. of_member n new ≡ of_member n (with_one key x s.members)) (equal x.member r e) (own ∙ ap (with_one key x) (h.each x.member) ∙ sym (own_with x s.members))
      by r false e = others r e ∙ h.each r ∙ sym (others_alike x r e s.members (with_one key x s.members) (beside_put Member x s.members rise))

  pub memberships_without : of_member x.member new ≡ without_one key (key x) (of_member x.member old) → AreMemberships (without_row s MemberTable (key x)) new
  memberships_without own = record { each = λ r. by r (x.member == r) refl }
    where
      by : (r : ℕ) (b : Bool) → (x.member == r) ≡ b → of_member r new ≡ of_member r (without_one key (key x) s.members)
      by r true e = subst (λ n. of_member n new ≡ of_member n (without_one key (key x) s.members)) (equal x.member r e) (own ∙ ap (without_one key (key x)) (h.each x.member) ∙ sym (own_without x s.members))
      by r false e = others r e ∙ h.each r ∙ sym (others_alike x r e s.members (without_one key (key x) s.members) (beside_taken Member (key x) s.members rise))

-- ---- what comes through a membership, by tables that differ in it

module _ (t u : Tables) (x : MemberRow) (er : u.resources ≡ t.resources) (beside : rows_beside Member (key x) u.members ≡ rows_beside Member (key x) t.members) where
  sorts : (r : ℕ) → sort_of u r ≡ sort_of t r
  sorts r = ap (λ (l : List ResourceRow). option_map_or (λ (y : ResourceRow). sort_of_kind y.kind) (find (λ (y : ResourceRow). y.id == r) l) unknown) er

  alone : (v : Tables) (r m : ℕ) → sort_of v x.member ≡ plain → plain_load v r m (ask_through x) ≡ cond ((x.member == r) || false) (cond (covers x.from x.to m) 1 0) 0
  unfolding plain_load
  alone v r m e = ap (λ k. cond ((x.member == r) || (is_crew k && list_any (λ y. y == r) (members v x.member m))) (cond (covers x.from x.to m) 1 0) 0) e

  plain_same : (r m : ℕ) → sort_of t x.member ≡ plain → plain_load t r m (ask_through x) ≡ plain_load u r m (ask_through x)
  plain_same r m e = alone t r m e ∙ sym (alone u r m (sorts x.member ∙ e))

  members_same : (r m : ℕ) → (x.group ≡ r → ⊥) → members u r m ≡ members t r m
  members_same r m n = ap (map (λ (y : MemberRow). y.member)) (beside_alike (key x) (joins r m) (λ y f k. n (ap (λ (k : Key). k.a) k ∙ equal y.group r (and_left (y.group == r) (covers y.from y.to m) f))) t.members u.members beside)

  through_same : sort_of t x.member ≡ plain → sort_of t x.group ≡ crew → (r m : ℕ) → load t r m (ask_through x) ≡ load u r m (ask_through x)
  through_same e c r m = by (sort_of t r) refl
    where
      by : (k : LoadSort) → sort_of t r ≡ k → load t r m (ask_through x) ≡ load u r m (ask_through x)
      by plain s = load_as plain t r m (ask_through x) s ∙ plain_same r m e ∙ sym (load_as plain u r m (ask_through x) (sorts r ∙ s))
      by crew s = load_as crew t r m (ask_through x) s ∙ sym (load_as crew u r m (ask_through x) (sorts r ∙ s))
      by unknown s = load_as unknown t r m (ask_through x) s ∙ sym (load_as unknown u r m (ask_through x) (sorts r ∙ s))
      by pool s =
          let l = members_same r m (λ q. let z : crew ≡ pool = sym c ∙ ap (sort_of t) q ∙ s in cc) in
          load_as pool t r m (ask_through x) s
          ∙ (λ i. own_load r m (ask_through x) + sum_by (λ y. plain_same y m e i) (sym l i))
          ∙ sym (load_as pool u r m (ask_through x) (sorts r ∙ s))

-- no membership of the crew meets this one
met : (g h a b f k m : ℕ) → covers f k m ≡ true → ((g == h) && covers a b m) ≡ true → ((g == h) && nat_lt a k && nat_lt f b) ≡ true
met g h a b f k m c e = grind (arith, nat_tests)

none_joins : (x : MemberRow) (m : ℕ) → covers x.from x.to m ≡ true → (rows : List MemberRow) → list_any (meets x) rows ≡ false → list_any (joins x.group m) rows ≡ false
none_joins x m c [] e = refl
none_joins x m c (y ∷ ys) e = step (joins x.group m y) refl (meets x y) refl e (none_joins x m c ys)
  where
    step : (a : Bool) → joins x.group m y ≡ a → (b : Bool) → meets x y ≡ b → (b || list_any (meets x) ys) ≡ false → (list_any (meets x) ys ≡ false → list_any (joins x.group m) ys ≡ false) → (a || list_any (joins x.group m) ys) ≡ false
    step true f b g h r = absurd (false≢true (sym h ∙ ap (λ d. d || list_any (meets x) ys) (sym g ∙ met y.group x.group y.from y.to x.from x.to m c f)))
    step false f true g h r = absurd (false≢true (sym h))
    step false f false g h r = r h

pub kept_apart : (u : Tables) (x : MemberRow) (m : ℕ) → list_any (meets x) (of_member x.member u.members) ≡ false → covers x.from x.to m ≡ true → list_any (λ y. y == x.member) (members u x.group m) ≡ false
kept_apart u x m none c = member_by_rows u x.group x.member m ∙ none_joins x m c (of_member x.member u.members) none

-- ---- an index

module _ (t u w : Tables) (x : MemberRow) (l : Links) (xs ys : List MemberRow) (ur : u.resources ≡ t.resources) (er : w.resources ≡ u.resources) (eb : w.bookings ≡ u.bookings) (eu : u.members ≡ xs ++ ys) (ew : w.members ≡ xs ++ x ∷ ys)
    (beside : rows_beside Member (key x) u.members ≡ rows_beside Member (key x) t.members) (none : list_any (meets x) (of_member x.member u.members) ≡ false) (a : AreLinks t x l) where
  abbrev asks : List Ask
  asks = map ask_of u.bookings

  plain_u : sort_of u x.member ≡ plain
  plain_u = sorts t u x ur beside x.member ∙ a.member

  weights_linked : (r m : ℕ) → weight w asks r m ≡ weight u asks r m + taken l.items r m * weight u asks l.source m
  weights_linked r m = by (sort_of t x.group) refl a.linked
    where
      by : (k : LoadSort) → sort_of t x.group ≡ k → IsLinkedBy k t x l.source l.items → weight w asks r m ≡ weight u asks r m + taken l.items r m * weight u asks l.source m
      by plain s h = absurd h
      by unknown s h = absurd h
      by pool s h =
          weight_linked u w r m x.member (item_at r m (item_through x)) asks (λ b. through_pool u w x xs ys er eu ew plain_u (sorts t u x ur beside x.group ∙ s) m b r)
          ∙ (let e = sym (h.1 r m) in let f = sym h.0 in λ i. weight u asks r m + e i * weight u asks (f i) m)
      by crew s h =
          weight_linked u w r m x.group (load u r m (ask_through x)) asks (λ b. through_crew u w x xs ys er eu ew plain_u (sorts t u x ur beside x.group ∙ s) m (kept_apart u x m none) b r)
          ∙ (let e = sym (h.1 r m ∙ through_same t u x ur beside a.member s r m) in let f = sym h.0 in λ i. weight u asks r m + e i * weight u asks (f i) m)

  module _ (apart : (m : ℕ) → taken l.items l.source m ≡ 0) where
    -- the source weighs the same
    source_same : (m : ℕ) → weight w asks l.source m ≡ weight u asks l.source m
    source_same m =
        let e = weights_linked l.source m in
        let f : taken l.items l.source m * weight u asks l.source m ≡ 0 = ap (λ n. n * weight u asks l.source m) (apart m) ∙ nothing (weight u asks l.source m) in
        omega (arith, e, f)
      where
        nothing : (n : ℕ) → 0 * n ≡ 0
        nothing n = grind (arith)

    went : (r m : ℕ) → pos (weight u asks r m) ≡ pos (weight w asks r m) +ℤ times (taken l.items r m) (neg_ℤ (pos (weight w asks l.source m)))
    went r m =
        let e = weights_linked r m in
        let f = ap (λ n. times (taken l.items r m) (neg_ℤ (pos n))) (source_same m) ∙ times_neg (taken l.items r m) (weight u asks l.source m) in
        omega (arith, ints, e, f)

    came : (r m : ℕ) → pos (weight w asks r m) ≡ pos (weight u asks r m) +ℤ times (taken l.items r m) (pos (weight u asks l.source m))
    came r m =
        let e = weights_linked r m in
        let f = times_pos (taken l.items r m) (weight u asks l.source m) in
        omega (arith, ints, e, f)

    pub weights_came : (old new : List Weight) → IsStrictlySortedBy nat_cmp (map (λ (v : Weight). v.resource) old) → AreWeightsOf u old → AreRaised (λ r m. times (taken l.items r m) (signed Comes (value_under l.source m old))) old new → AreWeightsOf w new
    weights_came old new o h raised =
        raised_weights u w (λ r m. times (taken l.items r m) (pos (weight u asks l.source m))) old new er o h
        (raised_within (λ r m. times (taken l.items r m) (value_under l.source m old)) (λ r m. times (taken l.items r m) (pos (weight u asks l.source m))) old new (λ r m lo hi. ap (times (taken l.items r m)) (under_is u old l.source m h lo hi)) raised)
        (λ r m. ap (λ bs. pos (weight w (map ask_of bs) r m)) eb ∙ came r m)

    pub weights_went : (old new : List Weight) → IsStrictlySortedBy nat_cmp (map (λ (v : Weight). v.resource) old) → AreWeightsOf w old → AreRaised (λ r m. times (taken l.items r m) (signed Goes (value_under l.source m old))) old new → AreWeightsOf u new
    weights_went old new o h raised =
        raised_weights w u (λ r m. times (taken l.items r m) (neg_ℤ (pos (weight w asks l.source m)))) old new (sym er) o h
        (raised_within (λ r m. times (taken l.items r m) (neg_ℤ (value_under l.source m old))) (λ r m. times (taken l.items r m) (neg_ℤ (pos (weight w asks l.source m)))) old new
        (λ r m lo hi. ap (λ z. times (taken l.items r m) (neg_ℤ z)) (under_is w old l.source m h lo hi ∙ ap (λ bs. pos (weight w (map ask_of bs) l.source m)) eb)) raised)
        (λ r m. went r m ∙ ap (λ bs. pos (weight w (map ask_of bs) r m) +ℤ times (taken l.items r m) (neg_ℤ (pos (weight w asks l.source m)))) (sym eb))

module _ (t s : Tables) (x : MemberRow) (l : Links) (i j : IndexParts) (a : AreLinks t x l) (d : DifferAtMember t s (key x)) (h : IsIndexOf s i) (o : IsOrdered i) (standing : j.standing ≡ i.standing) (booked : j.booked ≡ i.booked)
    (apart : (m : ℕ) → taken l.items l.source m ≡ 0) (others : (r : ℕ) → (x.member == r) ≡ false → of_member r j.members ≡ of_member r i.members) where
  pub index_with : without_one key (key x) s.members ≡ s.members → of_member x.member j.members ≡ with_one key x (of_member x.member i.members) → list_any (meets x) (of_member x.member i.members) ≡ false
      → AreRaised (λ r m. times (taken l.items r m) (signed Comes (value_under l.source m i.weights))) i.weights j.weights → IsIndexOf (with_row s (Member x)) j
  index_with absent own none raised = record {
    weights =
        weights_came t s (with_row s (Member x)) x l (rows_below key (key x) s.members) (rows_above key (key x) s.members) d.resources refl refl (sym absent ∙ without_is (key x) s.members) (with_is x s.members) d.beside
        (ap (list_any (meets x)) (sym (h.members.each x.member)) ∙ none) a apart i.weights j.weights o.0 h.weights raised;
    standing = standing ∙ h.standing;
    booked = booked ∙ h.booked;
    members = memberships_with s x i.members j.members d.rise h.members others own;
  }

  pub index_without : Contains s.members x → of_member x.member j.members ≡ without_one key (key x) (of_member x.member i.members) → list_any (meets x) (of_member x.member j.members) ≡ false
      → AreRaised (λ r m. times (taken l.items r m) (signed Goes (value_under l.source m i.weights))) i.weights j.weights → IsIndexOf (without_row s MemberTable (key x)) j
  index_without there own none raised =
      let left = memberships_without s x i.members j.members d.rise h.members others own in
      record {
        weights =
            weights_went t (without_row s MemberTable (key x)) s x l (rows_below key (key x) s.members) (rows_above key (key x) s.members) d.resources refl refl (without_is (key x) s.members) (sym (stands x s.members d.rise (in_from_contains s.members x there)) ∙ with_is x s.members)
            (beside_taken Member (key x) s.members d.rise ∙ d.beside) (ap (list_any (meets x)) (sym (left.each x.member)) ∙ none) a apart i.weights j.weights o.0 h.weights raised;
        standing = standing ∙ h.standing;
        booked = booked ∙ h.booked;
        members = left;
      }

-- ---- rows by their keys

none_left : (k : Key) (rows : List MemberRow) → MembersRise rows → ((y : MemberRow) → IsIn y rows → key y ≡ k → ⊥) → without_one key k rows ≡ rows
none_left k rows s h = same_rows Member (without_one key k rows) rows (rise-without_one Member k rows s) s (λ z i. (in-without_one Member k z rows i).0) (λ z i. in_without Member k z rows i (h z i))

pub gone_twice : (k : Key) (rows : List MemberRow) → MembersRise rows → without_one key k (without_one key k rows) ≡ without_one key k rows
gone_twice k rows s = none_left k (without_one key k rows) (rise-without_one Member k rows s) (λ y i. (in-without_one Member k y rows i).1)

pub put_again : (x : MemberRow) (rows : List MemberRow) → MembersRise rows → with_one key x (without_one key (key x) rows) ≡ with_one key x rows
put_again x rows s =
    same_rows Member (with_one key x (without_one key (key x) rows)) (with_one key x rows) (rise-with_one Member x (without_one key (key x) rows) (rise-without_one Member (key x) rows s)) (rise-with_one Member x rows s)
    (λ z i. elim (in-with_one key x z (without_one key (key x) rows) i) [
      | inl e ↦ subst (λ y. IsIn y (with_one key x rows)) (sym e) (in_new key x rows)
      | inr h ↦ elim (in_kept key x z rows (in-without_one Member (key x) z rows h.0).0) [ inl e ↦ absurd (h.1 e) | inr j ↦ j ]
    ])
    (λ z i. elim (in-with_one key x z rows i) [
      | inl e ↦ subst (λ y. IsIn y (with_one key x (without_one key (key x) rows))) (sym e) (in_new key x (without_one key (key x) rows))
      | inr h ↦ elim (in_kept key x z (without_one key (key x) rows) (in_without Member (key x) z rows h.0 h.1)) [ inl e ↦ absurd (h.1 e) | inr j ↦ j ]
    ])

-- what is found among the memberships of a member stands, under its key
abbrev under : ℕ → ℕ → MemberRow → Bool
under g f y = (y.group == g) && (y.from == f)

pub found_stands : (s : Tables) (old : List MemberRow) (g p f : ℕ) (found : MemberRow) (rows : List MemberRow) → AreMemberships s old → rows ≡ of_member p old → find (under g f) rows ≡ Some found → Contains s.members found × (key found ≡ record { table = MemberTable; a = g; b = p; c = f })
found_stands s old g p f found rows h e q =
    let a = found_one (under g f) rows found q in
    let b = in-filter (λ (y : MemberRow). y.member == p) found s.members (subst (IsIn found) (e ∙ h.each p) a.0) in
    let n = equal found.group g (and_left (found.group == g) (found.from == f) a.1) in
    let m = equal found.member p b.1 in
    let o = equal found.from f (and_right (found.group == g) (found.from == f) a.1) in
    (contains_from_in s.members found b.0, λ i. record { table = MemberTable; a = n i; b = m i; c = o i })

-- and where none is found, none stands
pub none_found_there : (s : Tables) (i : IndexParts) (g p f : ℕ) (rows : List MemberRow) → MembersRise s.members → IsIndexOf s i → rows ≡ of_member p i.members → find (under g f) rows ≡ None → IsIndexOf (without_row s MemberTable (record { table = MemberTable; a = g; b = p; c = f })) i
none_found_there s i g p f rows rise h e q =
    let k : Key = record { table = MemberTable; a = g; b = p; c = f } in
    let same_rows_left = none_left k s.members rise (λ y j l.
    let m : y.member ≡ p = ap (λ (k : Key). k.b) l in
    found_none (under g f) rows y q (subst (IsIn y) (sym (e ∙ h.members.each p)) (in_filtered (λ (z : MemberRow). z.member == p) y s.members j (same y.member p m))) (both (y.group == g) (y.from == f) (same y.group g (ap (λ (k : Key). k.a) l)) (same y.from f (ap (λ (k : Key). k.c) l)))) in
    subst (λ (ms : List MemberRow). IsIndexOf (record s { members = ms }) i) (sym same_rows_left) h
  where
    both : (a b : Bool) → a ≡ true → b ≡ true → (a && b) ≡ true
    both true b e f = f
    both false b e f = e

-- ---- in a stage

module _ (t s : Tables) (more : ℕ) (i : IndexParts) (wf : AreWellFormed t) (h : IsStage t s 0 more i) where
  pub members_rise : MembersRise s.members
  members_rise = subst MembersRise (sym h.members) (keys_climb t wf MemberTable)

  pub differs : (k : Key) → DifferAtMember t s k
  differs k = record { resources = h.resources; rise = members_rise; beside = ap (rows_beside Member k) h.members }

  module _ (x : MemberRow) (k : Key) (e : k ≡ key x) where
    pub differs_out : DifferAtMember t (without_row s MemberTable k) (key x)
    differs_out = record {
      resources = h.resources;
      rise = rise-without_one Member k s.members members_rise;
      beside = ap (λ j. rows_beside Member (key x) (without_one key j s.members)) e ∙ beside_taken Member (key x) s.members members_rise ∙ ap (rows_beside Member (key x)) h.members;
    }

    pub out_twice : without_one key (key x) (without_one key k s.members) ≡ without_one key k s.members
    out_twice = ap (λ j. without_one key j (without_one key k s.members)) (sym e) ∙ gone_twice k s.members members_rise

    pub put_index : (j : IndexParts) → IsIndexOf (with_row (without_row s MemberTable k) (Member x)) j → IsIndexOf (with_row s (Member x)) j
    put_index j a = subst (λ (ms : List MemberRow). IsIndexOf (record s { members = ms }) j) (ap (λ n. with_one key x (without_one key n s.members)) e ∙ put_again x s.members members_rise) a
