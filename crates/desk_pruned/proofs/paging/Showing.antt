-- What a page with so many rows of each start has passed.
use Rattle.std.proofs.Common.{◌≡◌, ℕ, suc, ◌+◌, ◌<◌, ◌≤◌, Bool, true, false, cond, not, ◌==◌, nat_lt, List, [], ◌∷◌, ◌++◌, filter, length, Option, Some, None, ◌⊎◌, inl, inr, refl, sym, ap, ◌∙◌, subst, arith, min}
use Rattle.std.specs.List.{last_or}
use Rattle.std.specs.List.Sorted.{IsStrictlySortedBy}
use Rattle.std.specs.Ordering.{is_lt}
use Rattle.std.specs.Cmp.Lexicographic.{slice_cmp}
use Rattle.std.specs.declared.cmp.Ordering.{Ordering}
use Rattle.std.specs.declared.cmp.Ordering.TheVariants.{Less, Equal, Greater}
use Rattle.std.proofs.lemmas.Bool.{false≢true}
use Rattle.std.proofs.lemmas.Bool.Decides.{nat_tests}
use Rattle.std.proofs.lemmas.List.Kept.{IsStrictlySortedBy-filter}
use Rattle.desk_base.specs.declared.search.results.Position.{Position}
use Rattle.desk_base.specs.declared.search.results.Found.{Found}
use Rattle.desk_base.specs.rules.Limits.{passed_limit, page_limit}
use Rattle.desk_base.specs.search.Order.{pick_cmp, position_cmp}
use Rattle.desk_base.specs.search.Page.{shown_before, due_of, passed_of, rows_at, shown_after, page_of}
use Rattle.desk_base.specs.search.Positions.{position_at, precedes, positions_after, rows_among}
use Rattle.desk_base.proofs.lists.Members.{IsIn, all_at, in-filter, contains_from_in}
use Rattle.desk_base.proofs.lists.Filtered.{all_pass, pass_both}
use Rattle.desk_pruned.specs.Ways.{Ways, IsSound}
use Rattle.desk_pruned.specs.Cuts.{IsBeyond, IsNextLive, IsLast, IsCutBefore, LeaveTheSame, cut_at}
use Rattle.desk_pruned.specs.Counts.{later, cut_due, IsAt}
use Rattle.desk_pruned.specs.Trails.{root_tried, root_cut, cut_after}
use Rattle.desk_pruned.proofs.cutting.Picks.{less_splits, less_by_start, less_by_picks}
use Rattle.desk_pruned.proofs.rooted.KnownStarts.{past_start}
use Rattle.desk_pruned.proofs.paging.Passing.{next_is_first, none_is_left, IsPassing, passing_first, passing_more, all_passed, end_is, same_is_true, last-push, last_some}
use Rattle.desk_base.proofs.searched.Due.{one_row, counted, start_of, count_of, full_at, rows_at_is, due_from, HasShown, has_shown-push, due_by, counted_same, counted_later, le_cases}

-- ---- later starts

pub later_down : (s : ℕ) (p : Position) → position_cmp (position_at (s + 1) []) p ≡ Less → s < p.start
later_down s p h = elim (less_splits (position_at (s + 1) []) p h) [ inl l ↦ omega arith | inr e ↦ omega (arith, e.0) ]

-- what is after a start is what is past its last pick
pub later_same : (w : Ways) → IsSound w → (s : ℕ) → LeaveTheSame w (later s) (cut_at s [] (Some None))
later_same w sound s p live = ((λ h. inl (later_down s p h)), λ h. later_up p (sound.some p live) (past_start s p h))
  where
    later_up : (p : Position) → 1 ≤ length p.picks → s < p.start → position_cmp (position_at (s + 1) []) p ≡ Less
    later_up p some h = elim (le_cases (s + 1) p.start (omega arith)) [ inl l ↦ less_by_start (position_at (s + 1) []) p l | inr e ↦ less_by_picks (position_at (s + 1) []) p e (by p.picks some) ]
      where
        by : (l : List (Option ℕ)) → 1 ≤ length l → slice_cmp pick_cmp [] l ≡ Less
        by [] h = absurd (omega arith)
        by (x ∷ l) h = refl

pub before_later : (w : Ways) (s : ℕ) (q : List (Option ℕ)) (tried : Option (Option ℕ)) → IsCutBefore w (root_cut s q tried) s
before_later w s q tried p live h = by (root_tried q tried)
  where
    by : (t : Option (Option ℕ)) → IsBeyond (cut_at s [] t) p
    by None = less_by_start (position_at s []) p h
    by (Some x) = inl h

-- ---- one position that is due after the other

below_is : (m n : ℕ) → m < n → nat_lt m n ≡ true
below_is m n h = grind (arith, nat_tests)

not_below_is : (m n : ℕ) → n ≤ m → nat_lt m n ≡ false
not_below_is m n h = grind (arith, nat_tests)

is_below : (m n : ℕ) → nat_lt m n ≡ true → m < n
is_below m n h = grind (arith, nat_tests)

is_not_below : (m n : ℕ) → nat_lt m n ≡ false → n ≤ m
is_not_below m n h = grind (arith, nat_tests)

counted_least : (s c t : ℕ) → counted s c t ≤ c
counted_least s c t = by (t == s)
  where
    by : (b : Bool) → cond b c 0 ≤ c
    by true = omega arith
    by false = omega arith

less_is : (o : Ordering) → is_lt o ≡ true → o ≡ Less
less_is Less e = refl
less_is Equal e = absurd (false≢true e)
less_is Greater e = absurd (false≢true e)

not_later : (s : ℕ) (q : Position) → s ≡ q.start → precedes (position_at (s + 1) []) q ≡ false
not_later s q e = by (position_cmp (position_at (s + 1) []) q) (λ l. let h = later_down s q l in omega (arith, h, e))
  where
    by : (o : Ordering) → (o ≡ Less → ⊥) → is_lt o ≡ false
    by Less h = absurd (h refl)
    by Equal h = refl
    by Greater h = refl

is_later : (s : ℕ) (q : Position) → 1 ≤ length q.picks → s < q.start → precedes (position_at (s + 1) []) q ≡ true
is_later s q some h =
    ap is_lt (elim (le_cases (s + 1) q.start (omega arith)) [
      | inl l ↦ less_by_start (position_at (s + 1) []) q l
      | inr e ↦ less_by_picks (position_at (s + 1) []) q e (by q.picks some)
    ])
  where
    by : (l : List (Option ℕ)) → 1 ≤ length l → slice_cmp pick_cmp [] l ≡ Less
    by [] h = absurd (omega arith)
    by (x ∷ l) h = refl

module _ (leaves per : ℕ) where
  -- where enough rows of a start were shown, the rest of it is not due
  due_skip : (s c : ℕ) (qs : List Position) → per ≤ c → IsStrictlySortedBy position_cmp qs → ((q : Position) → IsIn q qs → (s ≤ q.start) × (1 ≤ length q.picks)) → due_from leaves per s c qs ≡ due_from leaves per s c (filter (precedes (position_at (s + 1) [])) qs)
  unfolding IsStrictlySortedBy
  due_skip s c [] g sorted h = refl
  due_skip s c (q ∷ qs) g sorted h = elim (le_cases s q.start (h q (inl refl)).0) [
    | inl l ↦ ap (due_from leaves per s c) (sym (all_pass (precedes (position_at (s + 1) [])) (q ∷ qs) (λ p i. is_later s p (h p i).1 (after_it l p i))))
    | inr e ↦
        at_start e
        ∙ due_skip s c qs g sorted.1 (λ p i. h p (inr i)) ∙ ap (due_from leaves per s c) (sym (ap (λ b. cond b (q ∷ filter (precedes (position_at (s + 1) [])) qs) (filter (precedes (position_at (s + 1) [])) qs)) (not_later s q e)))
  ]
    where
      after_it : s < q.start → (p : Position) → IsIn p (q ∷ qs) → s < p.start
      after_it l p (inl e) = subst (λ (u : Position). s < u.start) (sym e) l
      after_it l p (inr i) = elim (less_splits q p (all_at (λ u. position_cmp q u ≡ Less) qs p sorted.0 i)) [ inl m ↦ omega arith | inr m ↦ omega (arith, m.0) ]

      at_start : s ≡ q.start → due_from leaves per s c (q ∷ qs) ≡ due_from leaves per s c qs
      at_start e = subst (λ n. cond (nat_lt (counted s c n) per) (q ∷ due_from leaves per n (counted s c n + one_row leaves q) qs) (due_from leaves per n (counted s c n) qs) ≡ due_from leaves per s c qs) e
          (ap (λ n. cond (nat_lt n per) (q ∷ due_from leaves per s (n + one_row leaves q) qs) (due_from leaves per s n qs)) (counted_same s c)
          ∙ ap (λ b. cond b (q ∷ due_from leaves per s (c + one_row leaves q) qs) (due_from leaves per s c qs)) (not_below_is c per g))

  due_keep : (s c : ℕ) (p : Position) (ps : List Position) → counted s c p.start < per → due_from leaves per s c (p ∷ ps) ≡ p ∷ due_from leaves per p.start (counted s c p.start + one_row leaves p) ps
  due_keep s c p ps h = ap (λ b. cond b (p ∷ due_from leaves per p.start (counted s c p.start + one_row leaves p) ps) (due_from leaves per p.start (counted s c p.start) ps)) (below_is (counted s c p.start) per h)

module _ (w : Ways) (sound : IsSound w) (per : ℕ) (some : 1 ≤ per) where
  due_later : (n : Position) (s c : ℕ) → n.start ≡ s → per ≤ c → due_from w.leaves per s c (positions_after (Some n) w.lives) ≡ due_from w.leaves per s c (positions_after (Some (position_at (s + 1) [])) w.lives)
  due_later n s c e g =
      due_skip w.leaves per s c (filter (precedes n) w.lives) g (IsStrictlySortedBy-filter position_cmp (precedes n) w.lives sound.rising) here
      ∙ ap (due_from w.leaves per s c) (pass_both (precedes (position_at (s + 1) [])) (precedes n) (λ p t. ap is_lt (less_by_start n p (let h = later_down s p (less_is (position_cmp (position_at (s + 1) []) p) t) in omega (arith, h, e)))) w.lives)
    where
      here : (q : Position) → IsIn q (filter (precedes n) w.lives) → (s ≤ q.start) × (1 ≤ length q.picks)
      here q i =
          let m = in-filter (precedes n) q w.lives i in
          (elim (less_splits n q (less_is (position_cmp n q) m.1)) [ inl l ↦ omega (arith, e) | inr f ↦ omega (arith, e, f.0) ], sound.some q (contains_from_in w.lives q m.0))

  -- the first that is due
  pub due_here : (next : Option Position) (s c : ℕ) (p : Position) → IsAt next s c → IsNextLive w (cut_due per next s c) p
      → (due_from w.leaves per s c (positions_after next w.lives) ≡ p ∷ due_from w.leaves per p.start (counted s c p.start + one_row w.leaves p) (positions_after (Some p) w.lives)) × (s ≤ p.start)
  due_here next s c p place live = by (nat_lt c per) refl live
    where
      by : (b : Bool) → nat_lt c per ≡ b → IsNextLive w (cond b (cut_after next) (later s)) p
          → (due_from w.leaves per s c (positions_after next w.lives) ≡ p ∷ due_from w.leaves per p.start (counted s c p.start + one_row w.leaves p) (positions_after (Some p) w.lives)) × (s ≤ p.start)
      by true e live = (
        ap (due_from w.leaves per s c) (next_is_first w sound next p live) ∙ due_keep w.leaves per s c p (positions_after (Some p) w.lives) (omega (arith, is_below c per e, counted_least s c p.start)),
        from next place live.1,
      )
        where
          from : (n : Option Position) → IsAt n s c → IsBeyond (cut_after n) p → s ≤ p.start
          from None at h = omega (arith, at.0)
          from (Some a) at h = elim (less_splits a p h) [ inl l ↦ omega (arith, at) | inr f ↦ omega (arith, at, f.0) ]
      by false e live = (enough next place (is_not_below c per e), omega (arith, later_down s p live.1))
        where
          enough : (n : Option Position) → IsAt n s c → per ≤ c → due_from w.leaves per s c (positions_after n w.lives) ≡ p ∷ due_from w.leaves per p.start (counted s c p.start + one_row w.leaves p) (positions_after (Some p) w.lives)
          enough None at g = absurd (omega (arith, at.1))
          enough (Some n) at g =
              due_later n s c at g ∙ ap (due_from w.leaves per s c) (next_is_first w sound (Some (position_at (s + 1) [])) p live)
              ∙ due_keep w.leaves per s c p (positions_after (Some p) w.lives) (let z = counted_later s c p.start (later_down s p live.1) in omega (arith, z))

  pub due_none : (next : Option Position) (s c : ℕ) → IsAt next s c → IsLast w (cut_due per next s c) → due_from w.leaves per s c (positions_after next w.lives) ≡ []
  due_none next s c place last = by (nat_lt c per) refl last
    where
      by : (b : Bool) → nat_lt c per ≡ b → IsLast w (cond b (cut_after next) (later s)) → due_from w.leaves per s c (positions_after next w.lives) ≡ []
      by true e last = ap (due_from w.leaves per s c) (none_is_left w sound next last)
      by false e last = enough next place (is_not_below c per e)
        where
          enough : (n : Option Position) → IsAt n s c → per ≤ c → due_from w.leaves per s c (positions_after n w.lives) ≡ []
          enough None at g = absurd (omega (arith, at.1))
          enough (Some n) at g = due_later n s c at g ∙ ap (due_from w.leaves per s c) (none_is_left w sound (Some (position_at (s + 1) [])) last)

  pub first_shown : (a : Position) (shown : ℕ) → HasShown w.leaves per (Some a) shown [] a.start shown
  first_shown a shown t h = by (a.start == t) (t == a.start) (flip a.start t)
    where
      flip : (m n : ℕ) → (m == n) ≡ (n == m)
      flip m n = grind (arith, nat_tests)

      by : (b d : Bool) → b ≡ d → 0 + cond b shown 0 ≡ cond d shown 0
      by b d e = ap (λ x. 0 + cond x shown 0) e ∙ zero_more (cond d shown 0)
        where
          zero_more : (n : ℕ) → 0 + n ≡ n
          zero_more n = omega arith

  -- all that is due at first
  pub due_first : (a : Option Position) (shown : ℕ) → due_of w.leaves (Some per) (record { after = a; shown = shown }) (positions_after a w.lives) ≡ due_from w.leaves per (start_of a) (count_of a shown) (positions_after a w.lives)
  due_first None shown = due_by w.leaves per None shown [] w.lives 0 0 sound.rising (λ q i. omega arith) (λ t h. by (t == 0))
    where
      by : (b : Bool) → 0 + 0 ≡ cond b 0 0
      by true = omega arith
      by false = omega arith
  due_first (Some a) shown =
      due_by w.leaves per (Some a) shown [] (filter (precedes a) w.lives) a.start shown (IsStrictlySortedBy-filter position_cmp (precedes a) w.lives sound.rising)
      (λ q i. elim (less_splits a q (less_is (position_cmp a q) (in-filter (precedes a) q w.lives i).1)) [ inl l ↦ omega arith | inr e ↦ omega (arith, e.0) ])
      (first_shown a shown)

-- ---- the page so far

-- the positions that were passed, with their rows and the last of them; of its start s so many rows c were shown
pub record IsShowing (w : Ways) (per : ℕ) (a : Option Position) (shown limit : ℕ) (passed : List Position) (rows : List Found) (next : Option Position) (s c done : ℕ) : Type 0 where
  pub passing : IsPassing w.leaves limit (due_of w.leaves (Some per) (record { after = a; shown = shown }) (positions_after a w.lives)) (due_from w.leaves per s c (positions_after next w.lives)) passed rows done
  pub next_is : next ≡ last_or a passed
  pub shows : HasShown w.leaves per a shown passed s c
  pub place : IsAt next s c

module _ (w : Ways) (sound : IsSound w) (per : ℕ) (some : 1 ≤ per) (a : Option Position) (shown limit : ℕ) where
  abbrev Due : List Position
  Due = due_of w.leaves (Some per) (record { after = a; shown = shown }) (positions_after a w.lives)

  pub showing_first : (rows : List Found) (next : Option Position) (s c : ℕ) → rows ≡ [] → next ≡ a → s ≡ start_of a → c ≡ count_of a shown → IsShowing w per a shown limit [] rows next s c 0
  showing_first rows next s c e d f g =
      subst (λ r. IsShowing w per a shown limit [] r next s c 0) (sym e) (subst (λ n. IsShowing w per a shown limit [] [] n s c 0) (sym d) (subst (λ t. IsShowing w per a shown limit [] [] a t c 0) (sym f) (subst (λ n. IsShowing w per a shown limit [] [] a (start_of a) n 0) (sym g) (record {
        passing = passing_first w.leaves limit Due (due_from w.leaves per (start_of a) (count_of a shown) (positions_after a w.lives)) (due_first w sound per some a shown);
        next_is = refl;
        shows = none_shown a;
        place = first_place a;
      }))))
    where
      none_shown : (o : Option Position) → HasShown w.leaves per o shown [] (start_of o) (count_of o shown)
      none_shown None = λ t h. by (t == 0)
        where
          by : (b : Bool) → 0 + 0 ≡ cond b 0 0
          by true = omega arith
          by false = omega arith
      none_shown (Some b) = first_shown w sound per some b shown

      first_place : (o : Option Position) → IsAt o (start_of o) (count_of o shown)
      first_place None = (refl, refl)
      first_place (Some b) = refl

  pub showing_more : (passed : List Position) (rows grown : List Found) (next : Option Position) (s c done : ℕ) (p : Position) → IsShowing w per a shown limit passed rows next s c done → length rows < limit → done < passed_limit
      → IsNextLive w (cut_due per next s c) p → grown ≡ rows ++ rows_among w.leaves (p ∷ []) → IsShowing w per a shown limit (passed ++ p ∷ []) grown (Some p) p.start (counted s c p.start + one_row w.leaves p) (done + 1)
  showing_more passed rows grown next s c done p h room time live e =
      let here = due_here w sound per some next s c p h.place live in
      record {
        passing = passing_more w.leaves limit Due (due_from w.leaves per s c (positions_after next w.lives)) (due_from w.leaves per p.start (counted s c p.start + one_row w.leaves p) (positions_after (Some p) w.lives)) passed rows grown done p h.passing room time here.0 e;
        next_is = sym (last-push a passed p);
        shows = has_shown-push w.leaves per a shown passed s c p here.1 h.shows;
        place = refl;
      }

  shown_is : (passed : List Position) (rows : List Found) (next : Option Position) (s c done : ℕ) → IsShowing w per a shown limit passed rows next s c done
      → Some (cond (done == 0) shown (min c page_limit)) ≡ shown_after (Some per) (record { after = a; shown = shown }) (rows_among w.leaves passed) (last_or None passed)
  shown_is [] rows next s c done h = ap (λ b. Some (cond b shown (min c page_limit))) (same_is_true w.leaves limit Due done 0 (sym h.passing.count))
  shown_is (x ∷ xs) rows next s c done h =
      let n = last_some a x xs in
      let at : n.0.start ≡ s = subst (λ o. IsAt o s c) (h.next_is ∙ n.1) h.place in
      let size = h.passing.count in
      let counts : rows_at (rows_among w.leaves (x ∷ xs)) n.0.start + shown_before a shown n.0.start ≡ c =
      ap (λ m. m + shown_before a shown n.0.start) (rows_at_is w.leaves n.0.start (x ∷ xs)) ∙ subst (λ t. full_at w.leaves t (x ∷ xs) + shown_before a shown t ≡ c) (sym at) (h.shows s (omega arith) ∙ counted_same s c) in
      ap (λ b. Some (cond b shown (min c page_limit))) (not_zero done (long size)) ∙ ap (λ m. Some (min m page_limit)) (sym counts) ∙ sym (ap (shown_after (Some per) (record { after = a; shown = shown }) (rows_among w.leaves (x ∷ xs))) n.1)
    where
      not_zero : (n : ℕ) → 0 < n → (n == 0) ≡ false
      not_zero n h = grind (arith, nat_tests)

      long : suc (length xs) ≡ done → 0 < done
      long e = omega arith

  pub shown_page_is : (passed : List Position) (rows : List Found) (next : Option Position) (s c done : ℕ) (found : Bool) (now : ℕ) → IsShowing w per a shown limit passed rows next s c done → (found ≡ false) ⊎ ((limit ≤ length rows) ⊎ (passed_limit ≤ done))
      → (found ≡ false → IsLast w (cut_due per next s c)) → (found ≡ true → (p : Position) × IsNextLive w (cut_due per next s c) p) → now ≡ cond (done == 0) shown (min c page_limit)
      → record { rows = rows; next = next; shown = Some now; end = not found } ≡ page_of w.leaves (Some per) (record { after = a; shown = shown }) limit (positions_after a w.lives)
  shown_page_is passed rows next s c done found now h stop last more e =
      let rest = due_from w.leaves per s c (positions_after next w.lives) in
      let none : found ≡ false → rest ≡ [] = λ f. due_none w sound per some next s c h.place (last f) in
      let first : found ≡ true → (p : Position) × (more : List Position) × (rest ≡ p ∷ more) = λ f.
      let m = more f in (m.0, due_from w.leaves per m.0.start (counted s c m.0.start + one_row w.leaves m.0) (positions_after (Some m.0) w.lives), (due_here w sound per some next s c m.0 h.place m.1).0) in
      let all = all_passed w.leaves limit Due rest passed rows done found h.passing stop none in
      let ended = end_is w.leaves limit Due rest passed found h.passing.front none first in
      let counted_now = ap Some e ∙ shown_is passed rows next s c done h in
      λ i. record {
        rows = (h.passing.rows_are ∙ ap (rows_among w.leaves) (sym all)) i;
        next = (h.next_is ∙ ap (last_or a) (sym all)) i;
        shown = (counted_now ∙ ap (λ l. shown_after (Some per) (record { after = a; shown = shown }) (rows_among w.leaves l) (last_or None l)) (sym all)) i;
        end = (ended ∙ ap (λ l. length l == length Due) (sym all)) i;
      }

  pub shown_count_is : (passed : List Position) (rows : List Found) (next : Option Position) (s c done : ℕ) (found : Bool) → IsShowing w per a shown limit passed rows next s c done → (found ≡ false) ⊎ ((limit ≤ length rows) ⊎ (passed_limit ≤ done)) → (found ≡ false → IsLast w (cut_due per next s c))
      → length (passed_of w.leaves limit passed_limit Due) ≡ done
  shown_count_is passed rows next s c done found h stop last =
      ap length (all_passed w.leaves limit Due (due_from w.leaves per s c (positions_after next w.lives)) passed rows done found h.passing stop (λ f. due_none w sound per some next s c h.place (last f))) ∙ h.passing.count
