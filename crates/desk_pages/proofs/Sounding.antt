-- What a search goes over is sound.
use Rattle.std.proofs.Common.{◌≡◌, ℕ, ◌<◌, ◌≤◌, ◌⊎◌, inl, inr, List, [], ◌∷◌, ◌++◌, map, filter, length, get_or, Option, Some, None, refl, sym, ap, subst, arith, length-append}
use Rattle.std.proofs.lemmas.Bool.{cases_lt, false≢true}
use Rattle.std.proofs.lemmas.List.{length-map, get_or_past}
use Rattle.std.proofs.lemmas.List.Sums.{length-filter, count_by-le-length}
use Rattle.std.proofs.lemmas.Option.{slice_get_cases}
use Rattle.std.specs.Prelude.{Contains, slice_get, is_none, is_some, unwrap_or, IfSome, MatchOption, ⊤}
use Rattle.std.specs.List.Sorted.{IsStrictlySortedBy}
use Rattle.std.specs.Ordering.{nat_cmp}
use Rattle.std.specs.declared.cmp.Ordering.TheVariants.{Less}
use Rattle.std.proofs.lemmas.Cmp.{nat_cmp_total}
use Rattle.desk_base.specs.declared.rows.tables.Tables.{Tables}
use Rattle.desk_base.specs.declared.rows.resources.ResourceRow.{ResourceRow}
use Rattle.desk_base.specs.declared.rows.groups.Leaf.{Leaf}
use Rattle.desk_base.specs.meaning.Eligible.{first_broken_rule, eligibility}
use Rattle.desk_base.specs.rows.Lookups.{KeysRise}
use Rattle.desk_base.specs.rules.Rules.{first_broken}
use Rattle.desk_base.specs.search.Listing.{IsLive}
use Rattle.desk_base.specs.search.Order.{pick_cmp}
use Rattle.desk_base.specs.search.Positions.{position_at}
use Rattle.desk_base.proofs.lists.Members.{IsIn, in-append, in-map, in_mapped, in_left, in_right, contains_from_in, in_from_contains, sorted-append, sorted-map}
use Rattle.desk_base.proofs.lists.Orders.{Enumerates-same}
use Rattle.desk_base.proofs.searched.Prefixes.{prefix_live}
use Rattle.desk_base.proofs.tables.Sounds.{keys_in_order}
use Rattle.desk_need.specs.Candidates.{serving}
use Rattle.desk_need.specs.Cases.{Asked}
use Rattle.desk_need.proofs.CandidateLemmas.{serving_are_candidates}
use Rattle.desk_load.specs.Starts.{IsNextOf}
use Rattle.desk_pruned.specs.Ways.{IsSound, IsLiveAt, IsFirstStart, costs}
use Rattle.desk_feasible.specs.Live.{IsReady, IsPlaced}
use Rattle.desk_feasible.proofs.Growing.{last_serves}
use Rattle.desk_pages.specs.Spaces.{SpaceParts, AreChoices, AreChoicesOf, IsInHorizon, ways_of}
use Rattle.desk_pages.proofs.Lives.{lives, live_from, live_to, live_length, late_from, placed_from, live_more}

-- ---- the choices of a leaf

module _ (t : Tables) (leaf : Leaf) (xs : List (Option ℕ)) (h : AreChoices t leaf xs) where
  none_last : (cs : List ℕ) (x y : Option ℕ) → IsIn x (map Some cs) → IsIn y (None ∷ []) → pick_cmp x y ≡ Less
  none_last cs x y i (inr j) = absurd j
  none_last cs x y i (inl e) = let a = in-map Some x cs i in subst (λ p. pick_cmp p y ≡ Less) (sym a.2) (subst (λ q. pick_cmp (Some a.0) q ≡ Less) (sym e) refl)

  one_sorted : IsStrictlySortedBy pick_cmp (None ∷ [])
  unfolding IsStrictlySortedBy
  one_sorted = (tt, tt)

  pub choices_rise : IsStrictlySortedBy pick_cmp xs
  choices_rise =
      subst (IsStrictlySortedBy pick_cmp) (sym h.2)
      (sorted-append pick_cmp (map Some h.0) (None ∷ []) (sorted-map pick_cmp nat_cmp Some (λ x y l. l) h.0 h.1.rising) one_sorted (none_last h.0))

  cost_of : (cs : List ℕ) → costs (map Some cs ++ None ∷ []) ≡ length cs
  cost_of [] = refl
  cost_of (c ∷ cs) = let r = cost_of cs in omega arith

  pub choices_few : KeysRise t → costs xs ≤ length t.resources
  choices_few rise =
      let e = Enumerates-same nat_cmp nat_cmp_total (λ r. first_broken_rule t leaf r ≡ None) h.0 (serving t leaf) h.1 (serving_are_candidates t leaf rise) in
      let p = λ (x : ResourceRow). is_none (first_broken (eligibility t leaf x)) in
      omega (arith, ap costs h.2, cost_of h.0, ap length e, length-map (filter p t.resources) (λ (x : ResourceRow). x.id), length-filter p t.resources, count_by-le-length p t.resources)

  pub choices_have : (x : Option ℕ) → MatchOption x ⊤ (λ r. first_broken_rule t leaf r ≡ None) → Contains xs x
  choices_have x s = subst (λ l. Contains l x) (sym h.2) (contains_from_in (map Some h.0 ++ None ∷ []) x (is_one x s))
    where
      is_one : (x : Option ℕ) → MatchOption x ⊤ (λ r. first_broken_rule t leaf r ≡ None) → IsIn x (map Some h.0 ++ None ∷ [])
      is_one None s = in_right None (map Some h.0) (None ∷ []) (inl refl)
      is_one (Some r) s = in_left (Some r) (map Some h.0) (None ∷ []) (in_mapped Some r h.0 (in_from_contains h.0 r (h.1.complete r s)))

  -- a choice breaks no rule of the leaf
  pub choice_serves : (x : Option ℕ) → Contains xs x → MatchOption x ⊤ (λ r. first_broken_rule t leaf r ≡ None)
  choice_serves None c = tt
  choice_serves (Some r) c = by_place (in-append (Some r) (map Some h.0) (None ∷ []) (in_from_contains (map Some h.0 ++ None ∷ []) (Some r) (subst (λ l. Contains l (Some r)) h.2 c)))
    where
      by_place : IsIn (Some r) (map Some h.0) ⊎ IsIn (Some r) (None ∷ []) → first_broken_rule t leaf r ≡ None
      by_place (inl i) = let a = in-map Some (Some r) h.0 i in let same : r ≡ a.0 = ap (λ o. unwrap_or o r) a.2 in subst (λ n. first_broken_rule t leaf n ≡ None) (sym same) (h.1.sound a.0 (contains_from_in h.0 a.0 a.1))
      by_place (inr (inl e)) = absurd (false≢true (sym (ap is_some e)))
      by_place (inr (inr j)) = absurd j

-- ---- all of it

module _ (x : SpaceParts) (ready : IsReady x.asked) (inside : IsInHorizon x.asked.group) (choices : AreChoicesOf x.asked.tables x.asked.group.leaves (length x.asked.group.leaves) x.choices) where
  a : Asked
  a = x.asked

  by_number : (P : List (Option ℕ) → Type 0) → P [] → ((leaf : Leaf) (xs : List (Option ℕ)) → AreChoices x.asked.tables leaf xs → P xs) → (i : ℕ) → P (get_or x.choices i [])
  by_number P none some i = elim (cases_lt i (length x.asked.group.leaves)) [
    | inl l ↦
        elim (slice_get_cases x.asked.group.leaves i).1 [
          | inl (leaf, _, e, _) ↦ some leaf (get_or x.choices i []) (choices.each i leaf l e)
          | inr (past, _) ↦ absurd (omega (arith, l, past))
        ]
    | inr past ↦ subst P (sym (get_or_past x.choices i [] (omega (arith, choices.size, past)))) none
  ]

  nothing_sorted : IsStrictlySortedBy pick_cmp []
  unfolding IsStrictlySortedBy
  nothing_sorted = tt

  rule_of : (s : ℕ) (first : List (Option ℕ)) (p : Option ℕ) (leaf : Leaf) → slice_get x.asked.group.leaves (length first) ≡ Some leaf → IsLive x.asked.tables x.asked.group x.options (position_at s (first ++ p ∷ [])) → MatchOption p ⊤ (λ r. first_broken_rule x.asked.tables leaf r ≡ None)
  rule_of s first None leaf e h = tt
  rule_of s first (Some r) leaf e h = (last_serves x.asked.tables x.asked.group s first r leaf e h.serve).0

  offered_by : (s : ℕ) (first : List (Option ℕ)) (p : Option ℕ) → IsLive x.asked.tables x.asked.group x.options (position_at s (first ++ p ∷ [])) → Contains (get_or x.choices (length first) []) p
  offered_by s first p h =
      let few = live_length x.asked x.options ready inside (position_at s (first ++ p ∷ [])) h in
      let l : length first < length x.asked.group.leaves = omega (arith, few, length-append first (p ∷ [])) in
      elim (slice_get_cases x.asked.group.leaves (length first)).1 [
        | inl (leaf, _, e, _) ↦ choices_have x.asked.tables leaf (get_or x.choices (length first) []) (choices.each (length first) leaf l e) p (rule_of s first p leaf e h)
        | inr (past, _) ↦ absurd (omega (arith, l, past))
      ]

  pub sound : IsSound (ways_of x)
  sound = record {
    rising = (lives x.asked x.options ready inside).rising;
    late = λ p c. let h = live_from x.asked x.options ready inside p c in late_from x.asked x.options ready inside p.start h.grid.from h.within;
    some = λ p c. (live_from x.asked x.options ready inside p c).has_pick;
    short = λ p c. live_length x.asked x.options ready inside p (live_from x.asked x.options ready inside p c);
    begun = λ s first more some c. live_to x.asked x.options ready inside (position_at s first) (prefix_live x.asked.tables x.asked.group x.options s first more some (live_from x.asked x.options ready inside (position_at s (first ++ more)) c));
    offered = λ s first p c. offered_by s first p (live_from x.asked x.options ready inside (position_at s (first ++ p ∷ [])) c);
    rise = by_number (IsStrictlySortedBy pick_cmp) nothing_sorted (λ leaf xs h. choices_rise x.asked.tables leaf xs h);
    few = by_number (λ xs. costs xs ≤ length x.asked.tables.resources) (omega arith) (λ leaf xs h. choices_few x.asked.tables leaf xs h (λ table. keys_in_order x.asked.tables table ready.formed.order));
  }

  pub placed_live : (s : ℕ) (picks : List (Option ℕ)) → IsLiveAt (ways_of x) s picks → IsPlaced x.asked.tables x.asked.group s picks
  placed_live s picks h = placed_from x.asked x.options (position_at s picks) (live_from x.asked x.options ready inside (position_at s picks) h)

  pub more_live : (s : ℕ) (picks : List (Option ℕ)) (p : Option ℕ) → IsLiveAt (ways_of x) s picks → IsPlaced x.asked.tables x.asked.group s (picks ++ p ∷ []) → IsLiveAt (ways_of x) s (picks ++ p ∷ [])
  more_live s picks p h placed = live_to x.asked x.options ready inside (position_at s (picks ++ p ∷ [])) (live_more x.asked x.options s picks p (live_from x.asked x.options ready inside (position_at s picks) h) placed)

  -- each choice is of a leaf that is there
  nothing_offered : (n : ℕ) (p : Option ℕ) → Contains (get_or x.choices n []) p → length x.choices ≤ n → ⊥
  nothing_offered n p c past = in_from_contains [] p (subst (λ l. Contains l p) (get_or_past x.choices n [] past) c)

  pub offered_leaf : (n : ℕ) (p : Option ℕ) → Contains (get_or x.choices n []) p → n < length x.asked.group.leaves
  offered_leaf n p c = elim (cases_lt n (length x.asked.group.leaves)) [
    | inl l ↦ l
    | inr past ↦ absurd (nothing_offered n p c (omega (arith, choices.size, past)))
  ]

  served_by : (n : ℕ) (r : ℕ) → Contains (get_or x.choices n []) (Some r) → (o : Option Leaf) → slice_get x.asked.group.leaves n ≡ o → IfSome o (λ leaf. first_broken_rule x.asked.tables leaf r ≡ None)
  served_by n r c None e = tt
  served_by n r c (Some leaf) e = choice_serves x.asked.tables leaf (get_or x.choices n []) (choices.each n leaf (offered_leaf n (Some r) c) e) (Some r) c

  pub offered_serves : (n : ℕ) (p : Option ℕ) → Contains (get_or x.choices n []) p → MatchOption p ⊤ (λ r. IfSome (slice_get x.asked.group.leaves n) (λ leaf. first_broken_rule x.asked.tables leaf r ≡ None))
  offered_serves n None c = tt
  offered_serves n (Some r) c = served_by n r c (slice_get x.asked.group.leaves n) refl

  pub first_from_next : (p : Option ℕ) (from : ℕ) (o : Option ℕ) → IsNextOf (λ s. IsLive x.asked.tables x.asked.group x.options (position_at s (p ∷ []))) from o → IsFirstStart (ways_of x) p from o
  first_from_next p from None h = λ u l c. h u l (live_from x.asked x.options ready inside (position_at u (p ∷ [])) c)
  first_from_next p from (Some t) h = (
    h.0,
    live_to x.asked x.options ready inside (position_at t (p ∷ [])) h.1,
    λ u l c. elim (cases_lt u t) [
      | inl less ↦ absurd (h.2 u l less (live_from x.asked x.options ready inside (position_at u (p ∷ [])) c))
      | inr most ↦ most
    ],
  )
