-- Resources that were looked at one after another, and why no other counts.
use Rattle.std.proofs.Common.{◌≡◌, ℕ, suc, ◌+◌, ◌≤◌, ◌<◌, Bool, true, false, cond, ◌||◌, ◌==◌, nat_lt, min, List, [], ◌∷◌, ◌++◌, map, length, take, Option, Some, None, ◌⊎◌, inl, inr, refl, sym, ap, ◌∙◌, subst, arith}
use Rattle.std.proofs.lemmas.Bool.{false≢true, cases_lt}
use Rattle.std.proofs.lemmas.Bool.Decides.{nat_tests}
use Rattle.std.proofs.lemmas.List.Sums.{sum_by-cons}
use Rattle.std.proofs.Math.Seq.{take-suc}
use Rattle.std.specs.Prelude.{filter, sum_by, slice_index_or, Contains}
use Rattle.desk_base.specs.declared.rows.tables.Tables.{Tables}
use Rattle.desk_base.specs.declared.rows.resources.MemberRow.{MemberRow}
use Rattle.desk_base.specs.meaning.Time.{covers}
use Rattle.desk_base.specs.meaning.Load.{LoadSort, plain, crew, pool, unknown, sort_of, is_crew, members, loads, own_load, plain_load, load_by, counts}
use Rattle.desk_base.specs.rules.Limits.{end_of_minutes}
use Rattle.desk_base.specs.rules.Sound.{AreWellFormed}
use Rattle.desk_base.proofs.lists.Members.{IsIn, in-append, in_left, in_right, in-map, in_mapped, in-filter, in_filtered, contains_from_in, in_from_contains}
use Rattle.desk_base.proofs.lists.Tests.{list_any_at, and_left, and_right}
use Rattle.desk_base.proofs.meaning.Pools.{members_plain}
use Rattle.desk_spans.specs.Minutes.{EachMinute}
use Rattle.desk_member.specs.Memberships.{of_member}
use Rattle.desk_member.specs.Spans.{rows_of_group}
use Rattle.desk_load.specs.declared.view.demand.Demand.{Demand}
use Rattle.desk_load.specs.Views.{ViewParts, HasRoomOn, demand_at}
use Rattle.desk_load.specs.Scans.{IsLeastShort, IsScan, IsShortAt, groups_at, plain_and_groups, members_and_groups, counted_by, counted_on, lesser}
use Rattle.desk_load.proofs.Used.{load_as, own_is, plain_is, joins}

-- ---- one resource more

pub either : (seen : List ℕ) (r q : ℕ) → Contains (seen ++ r ∷ []) q → Contains seen q ⊎ (q ≡ r)
either seen r q c = elim (in-append q seen (r ∷ []) (in_from_contains (seen ++ r ∷ []) q c)) [ inl i ↦ inl (contains_from_in seen q i) | inr i ↦ elim i [ inl e ↦ inr e | inr j ↦ absurd j ] ]

module _ (v : ViewParts) (d : Demand) where
  least_kept : (seen : List ℕ) (r k : ℕ) (short : Option ℕ) → HasRoomOn v (demand_at d k) k r → IsLeastShort v d seen k short → IsLeastShort v d (seen ++ r ∷ []) k short
  least_kept seen r k None h l = λ q c. elim (either seen r q c) [ inl i ↦ l q i | inr e ↦ subst (HasRoomOn v (demand_at d k) k) (sym e) h ]
  least_kept seen r k (Some x) h l = (l.0, λ q c u. elim (either seen r q c) [ inl i ↦ l.1 q i u | inr e ↦ subst (HasRoomOn v (demand_at d k) k) (sym e) h ])

  least_short : (seen : List ℕ) (r k : ℕ) (short : Option ℕ) → (HasRoomOn v (demand_at d k) k r → ⊥) → IsLeastShort v d seen k short → IsLeastShort v d (seen ++ r ∷ []) k (Some (lesser short r))
  least_short seen r k None h l = (h, λ q c u. elim (either seen r q c) [ inl i ↦ l q i | inr e ↦ absurd (omega arith) ])
  least_short seen r k (Some x) h l = step (nat_lt x r) refl
    where
      step : (b : Bool) → nat_lt x r ≡ b → IsLeastShort v d (seen ++ r ∷ []) k (Some (cond b x r))
      step true e = let f : x < r = grind (arith, nat_tests) in (l.0, λ q c u. elim (either seen r q c) [ inl i ↦ l.1 q i u | inr g ↦ absurd (omega arith) ])
      step false e = let f : r ≤ x = grind (arith, nat_tests) in (h, λ q c u. elim (either seen r q c) [ inl i ↦ l.1 q i (omega arith) | inr g ↦ absurd (omega arith) ])

  pub scan_kept : (seen : ℕ → List ℕ) (r m : ℕ) (short : Option ℕ) (u w : ℕ) → m < w → w ≤ end_of_minutes → EachMinute m w (λ k. HasRoomOn v (demand_at d k) k r) → IsScan v d seen m short u → IsScan v d (λ k. seen k ++ r ∷ []) m short (min u w)
  scan_kept seen r m short u w a b h s = record {
    later = omega (arith, s.later, a);
    inside = omega (arith, s.inside);
    least = λ k lo hi. least_kept (seen k) r k short (h k lo (omega (arith, hi))) (s.least k lo (omega (arith, hi)));
  }

  pub scan_short : (seen : ℕ → List ℕ) (r m : ℕ) (short : Option ℕ) (u w : ℕ) → m < w → w ≤ end_of_minutes → EachMinute m w (λ k. HasRoomOn v (demand_at d k) k r → ⊥) → IsScan v d seen m short u → IsScan v d (λ k. seen k ++ r ∷ []) m (Some (lesser short r)) (min u w)
  scan_short seen r m short u w a b h s = record {
    later = omega (arith, s.later, a);
    inside = omega (arith, s.inside);
    least = λ k lo hi. least_short (seen k) r k short (h k lo (omega (arith, hi))) (s.least k lo (omega (arith, hi)));
  }

  pub scan_is : (seen : ℕ → List ℕ) (m : ℕ) (short short' : Option ℕ) (u u' : ℕ) → short' ≡ short → u' ≡ u → IsScan v d seen m short u → IsScan v d seen m short' u'
  scan_is seen m short short' u u' e f s = subst (λ n. IsScan v d seen m short' n) (sym f) (subst (λ o. IsScan v d seen m o u) (sym e) s)

  -- by whether there is room
  pub scan_noted : (holds : Bool) (seen : ℕ → List ℕ) (r m : ℕ) (short short' : Option ℕ) (u w u' : ℕ) → m < w → w ≤ end_of_minutes
      → (holds ≡ true → EachMinute m w (λ k. HasRoomOn v (demand_at d k) k r)) → (holds ≡ false → EachMinute m w (λ k. HasRoomOn v (demand_at d k) k r → ⊥))
      → (holds ≡ true → short' ≡ short) → (holds ≡ false → short' ≡ Some (lesser short r)) → u' ≡ min u w
      → IsScan v d seen m short u → IsScan v d (λ k. seen k ++ r ∷ []) m short' u'
  scan_noted true seen r m short short' u w u' a b has lacks kept new e s = scan_is (λ k. seen k ++ r ∷ []) m short short' (min u w) u' (kept refl) e (scan_kept seen r m short u w a b (has refl) s)
  scan_noted false seen r m short short' u w u' a b has lacks kept new e s = scan_is (λ k. seen k ++ r ∷ []) m (Some (lesser short r)) short' (min u w) u' (new refl) e (scan_short seen r m short u w a b (lacks refl) s)

  pub scan_narrow : (seen : ℕ → List ℕ) (m : ℕ) (short : Option ℕ) (u w : ℕ) → m < w → w ≤ u → IsScan v d seen m short u → IsScan v d seen m short w
  scan_narrow seen m short u w a b s = record {
    later = a;
    inside = omega (arith, s.inside, b);
    least = λ k lo hi. s.least k lo (omega (arith, hi, b));
  }

  pub scan_as : (seen seen' : ℕ → List ℕ) (m : ℕ) (short : Option ℕ) (u : ℕ) → EachMinute m u (λ k. seen k ≡ seen' k) → IsScan v d seen m short u → IsScan v d seen' m short u
  scan_as seen seen' m short u e s = record {
    later = s.later;
    inside = s.inside;
    least = λ k lo hi. subst (λ xs. IsLeastShort v d xs k short) (e k lo hi) (s.least k lo hi);
  }

  pub scan_nothing : (m u : ℕ) → m < u → u ≤ end_of_minutes → IsScan v d (λ k. []) m None u
  scan_nothing m u h l = record { later = h; inside = l; least = λ k lo hi q c. absurd (in_from_contains [] q c) }

-- ---- joined lists

pub append_nothing : {A : Type 0} (xs : List A) → xs ++ [] ≡ xs
append_nothing [] = refl
append_nothing (x ∷ xs) = ap (λ l. x ∷ l) (append_nothing xs)

pub append_twice : {A : Type 0} (xs ys zs : List A) → (xs ++ ys) ++ zs ≡ xs ++ (ys ++ zs)
append_twice [] ys zs = refl
append_twice (x ∷ xs) ys zs = ap (λ l. x ∷ l) (append_twice xs ys zs)

groups-append : (xs ys : List MemberRow) (k : ℕ) → groups_at (xs ++ ys) k ≡ groups_at xs k ++ groups_at ys k
groups-append [] ys k = refl
groups-append (x ∷ xs) ys k = step (covers x.from x.to k) (groups-append xs ys k)
  where
    step : (b : Bool) → groups_at (xs ++ ys) k ≡ groups_at xs k ++ groups_at ys k
        → map (λ (x : MemberRow). x.group) (cond b (x ∷ filter (λ (x : MemberRow). covers x.from x.to k) (xs ++ ys)) (filter (λ (x : MemberRow). covers x.from x.to k) (xs ++ ys))) ≡ map (λ (x : MemberRow). x.group) (cond b (x ∷ filter (λ (x : MemberRow). covers x.from x.to k) xs) (filter (λ (x : MemberRow). covers x.from x.to k) xs)) ++ groups_at ys k
    step true h = ap (λ l. x.group ∷ l) h
    step false h = h

members-append : (t : Tables) (xs ys : List MemberRow) (k : ℕ) → members_and_groups t (xs ++ ys) k ≡ members_and_groups t xs k ++ members_and_groups t ys k
members-append t [] ys k = refl
members-append t (x ∷ xs) ys k = ap (λ l. cond (covers x.from x.to k) (plain_and_groups t x.member k) [] ++ l) (members-append t xs ys k) ∙ sym (append_twice (cond (covers x.from x.to k) (plain_and_groups t x.member k) []) (members_and_groups t xs k) (members_and_groups t ys k))

pub take_more : {A : Type 0} (rows : List A) (i : ℕ) (x : A) → i < length rows → x ≡ slice_index_or rows i x → take (i + 1) rows ≡ take i rows ++ x ∷ []
take_more rows i x h e = ap (λ n. take n rows) (let n : i + 1 ≡ suc i = omega arith in n) ∙ take-suc rows i x h ∙ ap (λ y. take i rows ++ y ∷ []) (sym e)

pub groups_more : (seen : List ℕ) (rows : List MemberRow) (i : ℕ) (x : MemberRow) (k : ℕ) → i < length rows → x ≡ slice_index_or rows i x → (seen ++ groups_at (take i rows) k) ++ groups_at (x ∷ []) k ≡ seen ++ groups_at (take (i + 1) rows) k
groups_more seen rows i x k h e =
    append_twice seen (groups_at (take i rows) k) (groups_at (x ∷ []) k)
    ∙ ap (λ l. seen ++ l) (sym (ap (λ l. groups_at l k) (take_more rows i x h e) ∙ groups-append (take i rows) (x ∷ []) k))

pub members_more : (t : Tables) (seen : List ℕ) (rows : List MemberRow) (i : ℕ) (x : MemberRow) (k : ℕ) → i < length rows → x ≡ slice_index_or rows i x → (seen ++ members_and_groups t (take i rows) k) ++ members_and_groups t (x ∷ []) k ≡ seen ++ members_and_groups t (take (i + 1) rows) k
members_more t seen rows i x k h e =
    append_twice seen (members_and_groups t (take i rows) k) (members_and_groups t (x ∷ []) k)
    ∙ ap (λ l. seen ++ l) (sym (ap (λ l. members_and_groups t l k) (take_more rows i x h e) ∙ members-append t (take i rows) (x ∷ []) k))

-- ---- no other resource counts

pub same : (a b : ℕ) → (a == b) ≡ true → a ≡ b
same a b e = grind (arith, nat_tests)

pub equal : (a : ℕ) → (a == a) ≡ true
equal a = grind (arith, nat_tests)

positive : (n : ℕ) → nat_lt 0 n ≡ true → 0 < n
positive n e = grind (arith, nat_tests)

is_positive : (n : ℕ) → 0 < n → nat_lt 0 n ≡ true
is_positive n l = grind (arith, nat_tests)

pub some_of_two : (a b : ℕ) → nat_lt 0 (a + b) ≡ true → (nat_lt 0 a ≡ true) ⊎ (nat_lt 0 b ≡ true)
some_of_two a b h = elim (cases_lt 0 a) [ inl l ↦ inl (is_positive a l) | inr l ↦ inr (is_positive b (omega (arith, positive (a + b) h, l))) ]

pub sum_some : {A : Type 0} (f : A → ℕ) (xs : List A) → nat_lt 0 (sum_by f xs) ≡ true → (x : A) × IsIn x xs × (nat_lt 0 (f x) ≡ true)
sum_some f [] h = absurd (false≢true h)
sum_some f (x ∷ xs) h = elim (some_of_two (f x) (sum_by f xs) (ap (nat_lt 0) (sym (sum_by-cons f x xs)) ∙ h)) [ inl l ↦ (x, inl refl, l) | inr l ↦ let r = sum_some f xs l in (r.0, inr r.1, r.2) ]

pub where_true : (b : Bool) (n : ℕ) → nat_lt 0 (cond b n 0) ≡ true → b ≡ true
where_true true n h = refl
where_true false n h = absurd (false≢true h)

or_cases : (a b : Bool) → (a || b) ≡ true → (a ≡ true) ⊎ (b ≡ true)
or_cases true b h = inl refl
or_cases false b h = inr h

crew_is : (s : LoadSort) → is_crew s ≡ true → s ≡ crew
crew_is plain e = absurd (false≢true e)
crew_is crew e = refl
crew_is pool e = absurd (false≢true e)
crew_is unknown e = absurd (false≢true e)

-- a member at k has a membership that covers k
pub row_of_member : (t : Tables) (g k x : ℕ) → IsIn x (members t g k) → (y : MemberRow) × IsIn y t.members × (y.group ≡ g) × (covers y.from y.to k ≡ true) × (x ≡ y.member)
row_of_member t g k x i =
    let a = in-map (λ (y : MemberRow). y.member) x (filter (joins g k) t.members) i in
    let b = in-filter (joins g k) a.0 t.members a.1 in
    (a.0, b.0, same a.0.group g (and_left (a.0.group == g) (covers a.0.from a.0.to k) b.1), and_right (a.0.group == g) (covers a.0.from a.0.to k) b.1, a.2)

in_groups : (t : Tables) (k : ℕ) (y : MemberRow) → IsIn y t.members → covers y.from y.to k ≡ true → IsIn y.group (groups_at (of_member y.member t.members) k)
in_groups t k y i c =
    in_mapped (λ (x : MemberRow). x.group) y (filter (λ x. covers x.from x.to k) (of_member y.member t.members))
    (in_filtered (λ (x : MemberRow). covers x.from x.to k) y (of_member y.member t.members) (in_filtered (λ (x : MemberRow). x.member == y.member) y t.members i (equal y.member)) c)

in_members : (t : Tables) (k q : ℕ) (y : MemberRow) (rows : List MemberRow) → IsIn y rows → covers y.from y.to k ≡ true → IsIn q (plain_and_groups t y.member k) → IsIn q (members_and_groups t rows k)
in_members t k q y [] i c j = absurd i
in_members t k q y (x ∷ xs) (inl e) c j = in_left q (cond (covers x.from x.to k) (plain_and_groups t x.member k) []) (members_and_groups t xs k) (subst (λ x. IsIn q (cond (covers x.from x.to k) (plain_and_groups t x.member k) [])) e (subst (λ b. IsIn q (cond b (plain_and_groups t y.member k) [])) (sym c) j))
in_members t k q y (x ∷ xs) (inr i) c j = in_right q (cond (covers x.from x.to k) (plain_and_groups t x.member k) []) (members_and_groups t xs k) (in_members t k q y xs i c j)

pub in_crew : (t : Tables) (g k q : ℕ) (y : MemberRow) → IsIn y t.members → y.group ≡ g → covers y.from y.to k ≡ true → IsIn q (plain_and_groups t y.member k) → IsIn q (members_and_groups t (rows_of_group t g) k)
in_crew t g k q y i e c j = in_members t k q y (rows_of_group t g) (in_filtered (λ (x : MemberRow). x.group == g) y t.members i (subst (λ n. (n == g) ≡ true) (sym e) (equal g))) c j

module _ (t : Tables) (d : Demand) (k : ℕ) (w : AreWellFormed t) where
  -- a booking that loads a plain resource stands on it, or on a crew that it is in
  pub loaded : (q : ℕ) → loads t d.resource q k ≡ true → (q ≡ d.resource) ⊎ ((sort_of t d.resource ≡ crew) × IsIn q (members t d.resource k))
  loaded q h = elim (or_cases (d.resource == q) _ h) [
    | inl e ↦ inl (sym (same d.resource q e))
    | inr e ↦
        let c = and_left (is_crew (sort_of t d.resource)) _ e in
        let m = list_any_at (λ x. x == q) (members t d.resource k) (and_right (is_crew (sort_of t d.resource)) _ e) in
        inr (crew_is (sort_of t d.resource) c, subst (λ n. IsIn n (members t d.resource k)) (same m.0 q m.2) m.1)
  ]

  -- by the sort of its resource, the resources on which a booking may count
  counted_as : (s : LoadSort) (q : ℕ) → sort_of t d.resource ≡ s → IsIn q (counted_by s t d.resource k) → IsIn q (counted_on t d.resource k)
  counted_as s q e i = subst (λ s. IsIn q (counted_by s t d.resource k)) (sym e) i

  pub groups_of : (q x : ℕ) → IsIn x (members t q k) → IsIn q (groups_at (of_member x t.members) k)
  groups_of q x i =
      let r = row_of_member t q k x i in
      subst (λ n. IsIn n (groups_at (of_member x t.members) k)) r.2 (subst (λ n. IsIn r.0.group (groups_at (of_member n t.members) k)) (sym r.4) (in_groups t k r.0 r.1 r.3))

  in_crew_of : (q x : ℕ) → IsIn x (members t d.resource k) → IsIn q (plain_and_groups t x k) → IsIn q (members_and_groups t (rows_of_group t d.resource) k)
  in_crew_of q x i j =
      let r = row_of_member t d.resource k x i in
      in_crew t d.resource k q r.0 r.1 r.2 r.3 (subst (λ n. IsIn q (plain_and_groups t n k)) r.4 j)

  on_plain : (q : ℕ) → sort_of t q ≡ plain → nat_lt 0 (plain_load t q k (demand_at d k)) ≡ true → IsIn q (counted_on t d.resource k)
  on_plain q p h = elim (loaded q (where_true (loads t d.resource q k) d.effort (ap (nat_lt 0) (sym (plain_is d k t q)) ∙ h))) [
    | inl e ↦ counted_as plain q (ap (sort_of t) (sym e) ∙ p) (inl e)
    | inr e ↦ counted_as crew q e.0 (inr (in_crew_of q q e.1 (inl refl)))
  ]

  on_own : (s : LoadSort) (q : ℕ) → sort_of t q ≡ s → nat_lt 0 (own_load q k (demand_at d k)) ≡ true → IsIn d.resource (counted_by s t d.resource k) → IsIn q (counted_on t d.resource k)
  on_own s q p h i =
      let e = same d.resource q (where_true (d.resource == q) d.effort (ap (nat_lt 0) (sym (own_is d k q)) ∙ h)) in
      counted_as s q (ap (sort_of t) e ∙ p) (subst (λ n. IsIn n (counted_by s t d.resource k)) e i)

  on_pool : (q x : ℕ) → IsIn x (members t q k) → nat_lt 0 (plain_load t x k (demand_at d k)) ≡ true → IsIn q (counted_on t d.resource k)
  on_pool q x i h = elim (loaded x (where_true (loads t d.resource x k) d.effort (ap (nat_lt 0) (sym (plain_is d k t x)) ∙ h))) [
    | inl e ↦ counted_as plain q (ap (sort_of t) (sym e) ∙ members_plain t q k x w i) (inr (subst (λ n. IsIn q (groups_at (of_member n t.members) k)) e (groups_of q x i)))
    | inr e ↦ counted_as crew q e.0 (inr (in_crew_of q x e.1 (inr (groups_of q x i))))
  ]

  by_sort : (s : LoadSort) (q : ℕ) → sort_of t q ≡ s → nat_lt 0 (load_by s t q k (demand_at d k)) ≡ true → IsIn q (counted_on t d.resource k)
  by_sort plain q p h = on_plain q p h
  by_sort crew q p h = on_own crew q p h (inl refl)
  by_sort pool q p h = elim (some_of_two (own_load q k (demand_at d k)) (sum_by (λ x. plain_load t x k (demand_at d k)) (members t q k)) h) [
    | inl g ↦ on_own pool q p g (inl refl)
    | inr g ↦ let x = sum_some (λ x. plain_load t x k (demand_at d k)) (members t q k) g in on_pool q x.0 x.1 x.2
  ]
  by_sort unknown q p h = absurd (false≢true h)

  -- a booking counts on no other resource
  pub counted_there : (q : ℕ) → counts t q k (demand_at d k) ≡ true → IsIn q (counted_on t d.resource k)
  counted_there q h = by_sort (sort_of t q) q refl (ap (nat_lt 0) (sym (load_as (sort_of t q) t q k (demand_at d k) refl)) ∙ h)

-- where all on which the booking may count were looked at, the least that is short is the least of all
pub scanned : (v : ViewParts) (d : Demand) (k : ℕ) (short : Option ℕ) → AreWellFormed v.tables → IsLeastShort v d (counted_on v.tables d.resource k) k short → IsShortAt v d k short
scanned v d k None w l = λ q c. l q (contains_from_in (counted_on v.tables d.resource k) q (counted_there v.tables d k w q c)) c
scanned v d k (Some r) w l = record { short = l.0; lower = λ q u c. l.1 q (contains_from_in (counted_on v.tables d.resource k) q (counted_there v.tables d k w q c)) u c }
