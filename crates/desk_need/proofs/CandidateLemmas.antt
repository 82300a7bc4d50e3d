-- Rising lists of those who serve a leaf: of all resources, or of the required.
use Rattle.std.proofs.Common.{◌≡◌, ◌≢◌, ℕ, zero, suc, ◌+◌, ◌<◌, ◌≤◌, Bool, true, false, cond, ◌||◌, ◌==◌, List, [], ◌∷◌, ◌++◌, map, length, get_or, Option, Some, None, ◌⊎◌, inl, inr, refl, sym, ap, ◌∙◌, subst, arith, nat_le, nat_lt, is_none}
use Rattle.std.proofs.lemmas.Bool.{false≢true}
use Rattle.std.proofs.lemmas.Bool.Decides.{nat_tests}
use Rattle.std.specs.Prelude.{filter, find, slice_get, IfSome}
use Rattle.std.specs.List.{list_any}
use Rattle.std.specs.List.Sorted.{IsStrictlySortedBy}
use Rattle.std.specs.Option.{option_map_or}
use Rattle.std.specs.Ordering.{nat_cmp, ordering_then, is_lt}
use Rattle.std.specs.declared.cmp.Ordering.{Ordering}
use Rattle.std.specs.declared.cmp.Ordering.TheVariants.{Less, Equal, Greater}
use Rattle.desk_base.specs.declared.rows.tables.Tables.{Tables}
use Rattle.desk_base.specs.declared.rows.resources.ResourceRow.{ResourceRow}
use Rattle.desk_base.specs.declared.rows.groups.Leaf.{Leaf}
use Rattle.desk_base.specs.declared.asked.rules.LeafRule.TheVariants.{Kind}
use Rattle.desk_base.specs.meaning.Capacity.{resource_of}
use Rattle.desk_base.specs.meaning.Eligible.{eligibility, first_broken_rule}
use Rattle.desk_base.specs.rules.Rules.{first_broken}
use Rattle.desk_base.specs.search.Order.{Enumerates}
use Rattle.desk_base.specs.rows.Keys.{key_cmp}
use Rattle.desk_base.specs.rows.Rows.{key_of}
use Rattle.desk_base.specs.rows.Lookups.{KeysRise}
use Rattle.desk_base.specs.declared.rows.tables.Table.TheVariants.{Resource as ResourceTable}
use Rattle.desk_base.specs.declared.rows.tables.AnyRow.TheVariants.{Resource}
use Rattle.desk_base.proofs.lists.Members.{IsIn, all_from, all_at, in-append, in_left, in_right, in-map, in_mapped, in-filter, in_filtered, contains_from_in, in_from_contains, sorted-append}
use Rattle.desk_base.proofs.lists.Tests.{list_any_at, find_cases}
use Rattle.desk_base.proofs.meaning.Shapes.{rules_kept}
use Rattle.desk_base.proofs.meaning.Patterns.{nat_cmp-less}
use Rattle.desk_need.specs.Candidates.{AreCandidates, AreCandidatesOf, serving, lesser, least_from}

less_is_below : (a b : ℕ) → nat_cmp a b ≡ Less → a < b
less_is_below a b e = grind (arith, nat_tests)

same_number : (a b : ℕ) → (a == b) ≡ true → a ≡ b
same_number a b e = grind (arith, nat_tests)

equal_itself : (a : ℕ) → (a == a) ≡ true
equal_itself a = grind (arith, nat_tests)

none_is : {A : Type 0} (o : Option A) → is_none o ≡ true → o ≡ None
none_is None e = refl
none_is (Some x) e = absurd (false≢true e)

-- ---- rows with rising ids

then_equal : (r : Ordering) → ordering_then r Equal ≡ Less → r ≡ Less
then_equal Less e = refl
then_equal Equal e = absurd (false≢true (ap is_lt e))
then_equal Greater e = absurd (false≢true (ap is_lt e))

ids_rise : (xs : List ResourceRow) → IsStrictlySortedBy key_cmp (map key_of (map Resource xs)) → IsStrictlySortedBy nat_cmp (map (λ (x : ResourceRow). x.id) xs)
unfolding IsStrictlySortedBy
ids_rise [] s = tt
ids_rise (x ∷ xs) s = (
  all_from (λ n. nat_cmp x.id n ≡ Less) (map (λ (y : ResourceRow). y.id) xs) (λ n i.
      let e = in-map (λ (y : ResourceRow). y.id) n xs i in
      let l = all_at (λ k. key_cmp (key_of (Resource x)) k ≡ Less) (map key_of (map Resource xs)) (key_of (Resource e.0)) s.0 (in_mapped key_of (Resource e.0) (map Resource xs) (in_mapped Resource e.0 xs e.1)) in
      subst (λ m. nat_cmp x.id m ≡ Less) (sym e.2) (then_equal (nat_cmp x.id e.0.id) l)),
  ids_rise xs s.1,
)

-- ---- the first with an id

found_itself : (x : ResourceRow) (xs : List ResourceRow) → IsStrictlySortedBy nat_cmp (map (λ (y : ResourceRow). y.id) xs) → IsIn x xs → find (λ y. y.id == x.id) xs ≡ Some x
unfolding IsStrictlySortedBy
found_itself x [] s i = absurd i
found_itself x (y ∷ ys) s (inl e) = ap (λ (z : ResourceRow). find (λ w. w.id == z.id) (y ∷ ys)) e ∙ ap (λ b. cond b (Some y) (find (λ w. w.id == y.id) ys)) (equal_itself y.id) ∙ sym (ap Some e)
found_itself x (y ∷ ys) s (inr i) =
    let l = less_is_below y.id x.id (all_at (λ n. nat_cmp y.id n ≡ Less) (map (λ (z : ResourceRow). z.id) ys) x.id s.0 (in_mapped (λ (z : ResourceRow). z.id) x ys i)) in
    ap (λ b. cond b (Some y) (find (λ w. w.id == x.id) ys)) (apart y.id x.id l) ∙ found_itself x ys s.1 i
  where
    apart : (a b : ℕ) → a < b → (a == b) ≡ false
    apart a b l = grind (arith, nat_tests)

rising_filter : (p : ResourceRow → Bool) (xs : List ResourceRow) → IsStrictlySortedBy nat_cmp (map (λ (y : ResourceRow). y.id) xs) → IsStrictlySortedBy nat_cmp (map (λ (y : ResourceRow). y.id) (filter p xs))
unfolding IsStrictlySortedBy
rising_filter p [] s = tt
rising_filter p (x ∷ xs) s = step (p x) (rising_filter p xs s.1)
  where
    step : (b : Bool) → IsStrictlySortedBy nat_cmp (map (λ (y : ResourceRow). y.id) (filter p xs)) → IsStrictlySortedBy nat_cmp (map (λ (y : ResourceRow). y.id) (cond b (x ∷ filter p xs) (filter p xs)))
    step true r = (
      all_from (λ n. nat_cmp x.id n ≡ Less) (map (λ (y : ResourceRow). y.id) (filter p xs)) (λ n i.
          let e = in-map (λ (y : ResourceRow). y.id) n (filter p xs) i in
          let f = in-filter p e.0 xs e.1 in
          subst (λ k. nat_cmp x.id k ≡ Less) (sym e.2) (all_at (λ k. nat_cmp x.id k ≡ Less) (map (λ (y : ResourceRow). y.id) xs) e.0.id s.0 (in_mapped (λ (y : ResourceRow). y.id) e.0 xs f.0))),
      r,
    )
    step false r = r

-- ---- all resources

module _ (t : Tables) (leaf : Leaf) where
  by_row : (r : ℕ) (x : ResourceRow) → resource_of t r ≡ Some x → first_broken_rule t leaf r ≡ first_broken (eligibility t leaf x)
  unfolding first_broken_rule
  by_row r x e = ap (λ o. option_map_or (λ y. first_broken (eligibility t leaf y)) o (Some Kind)) e

  by_none : (r : ℕ) → resource_of t r ≡ None → first_broken_rule t leaf r ≡ Some Kind
  unfolding first_broken_rule
  by_none r e = ap (λ o. option_map_or (λ y. first_broken (eligibility t leaf y)) o (Some Kind)) e

  -- who breaks no rule has a row that breaks none
  pub row_of_serving : (r : ℕ) → first_broken_rule t leaf r ≡ None → (x : ResourceRow) × IsIn x t.resources × (x.id ≡ r) × (first_broken (eligibility t leaf x) ≡ None)
  row_of_serving r e = elim (find_cases (λ (x : ResourceRow). x.id == r) t.resources) [
    | inl n ↦ absurd (false≢true (ap is_none (sym (by_none r n) ∙ e)))
    | inr (x, i, s, f) ↦ (x, i, same_number x.id r s, sym (by_row r x f) ∙ e)
  ]

  of_rising : IsStrictlySortedBy nat_cmp (map (λ (x : ResourceRow). x.id) t.resources) → AreCandidates t leaf (serving t leaf)
  of_rising s = record {
    rising = rising_filter (λ x. is_none (first_broken (eligibility t leaf x))) t.resources s;
    sound = λ r c.
        let m = in-map (λ (x : ResourceRow). x.id) r (filter (λ x. is_none (first_broken (eligibility t leaf x))) t.resources) (in_from_contains (serving t leaf) r c) in
        let f = in-filter (λ x. is_none (first_broken (eligibility t leaf x))) m.0 t.resources m.1 in
        ap (first_broken_rule t leaf) m.2 ∙ by_row m.0.id m.0 (found_itself m.0 t.resources s f.0) ∙ none_is (first_broken (eligibility t leaf m.0)) f.1;
    complete = λ r e.
        let h = row_of_serving r e in
        contains_from_in (serving t leaf) r (subst (λ n. IsIn n (serving t leaf)) h.2 (in_mapped (λ (x : ResourceRow). x.id) h.0 (filter (λ x. is_none (first_broken (eligibility t leaf x))) t.resources) (in_filtered (λ x. is_none (first_broken (eligibility t leaf x))) h.0 t.resources h.1 (ap is_none h.3))));
  }

  pub serving_are_candidates : KeysRise t → AreCandidates t leaf (serving t leaf)
  serving_are_candidates h = of_rising (ids_rise t.resources (h ResourceTable))

-- ---- the least number that is not below one

abbrev IsLeast : ℕ → List ℕ → Option ℕ → Type 0
IsLeast from xs None = (r : ℕ) → IsIn r xs → r < from
IsLeast from xs (Some r) = IsIn r xs × (from ≤ r) × ((q : ℕ) → IsIn q xs → from ≤ q → r ≤ q)

least_step : (from x : ℕ) (xs : List ℕ) (b : Bool) (o : Option ℕ) → nat_le from x ≡ b → IsLeast from xs o → IsLeast from (x ∷ xs) (lesser (cond b (Some x) None) o)
least_step from x xs false None e h = λ r i. elim i [ inl k ↦ let l = below from x e in omega arith | inr j ↦ h r j ]
  where
    below : (a b : ℕ) → nat_le a b ≡ false → b < a
    below a b e = grind (arith, nat_tests)
least_step from x xs false (Some r) e h = (
  inr h.0,
  h.1,
  λ q i l. elim i [ inl k ↦ let m = below from x e in absurd (omega (arith, k, l, m)) | inr j ↦ h.2 q j l ],
)
  where
    below : (a b : ℕ) → nat_le a b ≡ false → b < a
    below a b e = grind (arith, nat_tests)
least_step from x xs true None e h = (
  inl refl,
  from_below from x e,
  λ q i l. elim i [ inl k ↦ omega (arith, k) | inr j ↦ absurd (omega (arith, h q j, l)) ],
)
  where
    from_below : (a b : ℕ) → nat_le a b ≡ true → a ≤ b
    from_below a b e = grind (arith, nat_tests)
least_step from x xs true (Some r) e h = choose (nat_lt x r) refl
  where
    from_below : (a b : ℕ) → nat_le a b ≡ true → a ≤ b
    from_below a b e = grind (arith, nat_tests)

    less : (a b : ℕ) → nat_lt a b ≡ true → a < b
    less a b e = grind (arith, nat_tests)

    no_less : (a b : ℕ) → nat_lt a b ≡ false → b ≤ a
    no_less a b e = grind (arith, nat_tests)

    choose : (c : Bool) → nat_lt x r ≡ c → IsLeast from (x ∷ xs) (cond c (Some x) (Some r))
    choose true f = (
      inl refl,
      from_below from x e,
      λ q i l. elim i [ inl k ↦ omega (arith, k) | inr j ↦ omega (arith, h.2 q j l, less x r f) ],
    )
    choose false f = (
      inr h.0,
      h.1,
      λ q i l. elim i [ inl k ↦ omega (arith, k, no_less x r f) | inr j ↦ h.2 q j l ],
    )

least_is : (from : ℕ) (xs : List ℕ) → IsLeast from xs (least_from from xs)
least_is from [] = λ r i. absurd i
least_is from (x ∷ xs) = least_step from x xs (nat_le from x) (least_from from xs) refl (least_is from xs)

-- ---- the required resources

-- of the required resources below a number those that serve, rising
abbrev pub AreHeldBelow : Tables → Leaf → ℕ → List ℕ → Type 0
AreHeldBelow t leaf from = Enumerates nat_cmp (λ r. (r < from) × IsIn r leaf.required × (first_broken_rule t leaf r ≡ None))

module _ (t : Tables) (leaf : Leaf) where
  pub held_none : AreHeldBelow t leaf 0 []
  unfolding IsStrictlySortedBy
  held_none = record { rising = tt; sound = λ r c. absurd (in_from_contains [] r c); complete = λ r h. absurd (omega (arith, h.0)) }

  step : (from id : ℕ) (out : List ℕ) → AreHeldBelow t leaf from out → IsLeast from leaf.required (Some id) → (b : Bool) → is_none (first_broken_rule t leaf id) ≡ b → AreHeldBelow t leaf (id + 1) (out ++ cond b (id ∷ []) [])
  unfolding IsStrictlySortedBy
  step from id out h l true e = record {
    rising = sorted-append nat_cmp out (id ∷ []) h.rising (tt, tt) (λ x y i j. elim j [
      | inl k ↦ subst (λ n. nat_cmp x n ≡ Less) (sym k) (nat_cmp-less x id (let s = h.sound x (contains_from_in out x i) in omega (arith, s.0, l.1)))
      | inr n ↦ absurd n
    ]);
    sound = λ r c. elim (in-append r out (id ∷ []) (in_from_contains (out ++ id ∷ []) r c)) [
      | inl i ↦ let s = h.sound r (contains_from_in out r i) in (omega (arith, s.0, l.1), s.1, s.2)
      | inr j ↦ elim j [ inl k ↦ (omega (arith, k), subst (λ n. IsIn n leaf.required) (sym k) l.0, ap (first_broken_rule t leaf) k ∙ none_is (first_broken_rule t leaf id) e) | inr n ↦ absurd n ]
    ];
    complete = λ r p. contains_from_in (out ++ id ∷ []) r (place r p (below_or r from));
  }
    where
      below_or : (a b : ℕ) → (a < b) ⊎ (b ≤ a)
      below_or a b = grind arith

      place : (r : ℕ) → (r < id + 1) × IsIn r leaf.required × (first_broken_rule t leaf r ≡ None) → (r < from) ⊎ (from ≤ r) → IsIn r (out ++ id ∷ [])
      place r p (inl b) = in_left r out (id ∷ []) (in_from_contains out r (h.complete r (b, p.1, p.2)))
      place r p (inr b) = in_right r out (id ∷ []) (inl (let m = l.2 r p.1 b in omega (arith, m, p.0)))
  step from id out h l false e = subst (λ xs. AreHeldBelow t leaf (id + 1) xs) (sym (nothing out)) (record {
    rising = h.rising;
    sound = λ r c. let s = h.sound r c in (omega (arith, s.0, l.1), s.1, s.2);
    complete = λ r p. h.complete r (place r p (below_or r from));
  })
    where
      nothing : (xs : List ℕ) → xs ++ [] ≡ xs
      nothing [] = refl
      nothing (x ∷ xs) = ap (λ ys. x ∷ ys) (nothing xs)

      below_or : (a b : ℕ) → (a < b) ⊎ (b ≤ a)
      below_or a b = grind arith

      place : (r : ℕ) → (r < id + 1) × IsIn r leaf.required × (first_broken_rule t leaf r ≡ None) → (r < from) ⊎ (from ≤ r) → (r < from) × IsIn r leaf.required × (first_broken_rule t leaf r ≡ None)
      place r p (inl b) = (b, p.1, p.2)
      place r p (inr b) =
          let m = l.2 r p.1 b in
          let same : r ≡ id = omega (arith, m, p.0) in
          absurd (false≢true (sym e ∙ ap is_none (ap (first_broken_rule t leaf) (sym same) ∙ p.2)))

  -- one resource more
  pub held_more : (from id : ℕ) (out more : List ℕ) → AreHeldBelow t leaf from out → least_from from leaf.required ≡ Some id → more ≡ out ++ cond (is_none (first_broken_rule t leaf id)) (id ∷ []) [] → AreHeldBelow t leaf (id + 1) more
  held_more from id out more h e m = subst (AreHeldBelow t leaf (id + 1)) (sym m) (step from id out h (subst (IsLeast from leaf.required) e (least_is from leaf.required)) (is_none (first_broken_rule t leaf id)) refl)

  pub least_not_below : (from id : ℕ) → least_from from leaf.required ≡ Some id → from ≤ id
  least_not_below from id e = let l = subst (IsLeast from leaf.required) e (least_is from leaf.required) in l.1

  in_required : (r : ℕ) → length leaf.required ≢ 0 → first_broken_rule t leaf r ≡ None → IsIn r leaf.required
  in_required r some e =
      let h = row_of_serving t leaf r e in
      let k = rules_kept (eligibility t leaf h.0) h.3 in
      let listed = any_listed h.0.id leaf.required some k.1.1.1.1.1.0 in
      subst (λ n. IsIn n leaf.required) (same_number listed.0 h.0.id listed.2 ∙ h.2) listed.1
    where
      any_listed : (n : ℕ) (xs : List ℕ) → length xs ≢ 0 → ((length xs == 0) || list_any (λ q. q == n) xs) ≡ true → (q : ℕ) × IsIn q xs × ((q == n) ≡ true)
      any_listed n [] some e = absurd (some refl)
      any_listed n (x ∷ xs) some e = list_any_at (λ q. q == n) (x ∷ xs) (sym (ap (λ b. b || list_any (λ q. q == n) (x ∷ xs)) (not_none (length xs))) ∙ e)
        where
          not_none : (k : ℕ) → (suc k == 0) ≡ false
          not_none k = grind (arith, nat_tests)

  -- nothing is left
  pub held_all : (from : ℕ) (out : List ℕ) → AreHeldBelow t leaf from out → least_from from leaf.required ≡ None → length leaf.required ≢ 0 → AreCandidates t leaf out
  held_all from out h e some =
      let l = subst (IsLeast from leaf.required) e (least_is from leaf.required) in
      record {
        rising = h.rising;
        sound = λ r c. (h.sound r c).2;
        complete = λ r n. let i = in_required r some n in h.complete r (l r i, i, n);
      }

-- ---- the lists of leaves

pub candidates-more : (t : Tables) (ls : List Leaf) (cs : List (List ℕ)) (l : Leaf) (c : List ℕ) → AreCandidatesOf t ls cs → AreCandidates t l c → AreCandidatesOf t (ls ++ l ∷ []) (cs ++ c ∷ [])
candidates-more t [] [] l c h k = (k, tt)
candidates-more t [] (d ∷ cs) l c h k = absurd h
candidates-more t (m ∷ ls) [] l c h k = absurd h
candidates-more t (m ∷ ls) (d ∷ cs) l c h k = (h.0, candidates-more t ls cs l c h.1 k)

pub length-candidates : (t : Tables) (ls : List Leaf) (cs : List (List ℕ)) → AreCandidatesOf t ls cs → length cs ≡ length ls
length-candidates t [] [] h = refl
length-candidates t [] (c ∷ cs) h = absurd h
length-candidates t (l ∷ ls) [] h = absurd h
length-candidates t (l ∷ ls) (c ∷ cs) h = let r = length-candidates t ls cs h.1 in omega arith

pub candidates_at : (t : Tables) (ls : List Leaf) (cs : List (List ℕ)) (i : ℕ) (d : List ℕ) → AreCandidatesOf t ls cs → i < length ls → IfSome (slice_get ls i) (λ l. AreCandidates t l (get_or cs i d))
candidates_at t [] cs i d h l = absurd (omega arith)
candidates_at t (m ∷ ls) [] i d h l = absurd h
candidates_at t (m ∷ ls) (c ∷ cs) zero d h l = h.0
candidates_at t (m ∷ ls) (c ∷ cs) (suc i) d h l = candidates_at t ls cs i d h.1 (omega arith)
