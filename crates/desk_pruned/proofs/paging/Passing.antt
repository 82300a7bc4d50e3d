-- What a page has passed.
use Rattle.std.proofs.Common.{◌≡◌, ℕ, zero, suc, ◌+◌, ◌-◌, ◌<◌, ◌≤◌, Bool, true, false, cond, not, ◌==◌, List, [], ◌∷◌, ◌++◌, map, filter, length, length-append, Option, Some, None, ◌⊎◌, inl, inr, refl, sym, ap, ◌∙◌, subst, arith, append_assoc}
use Rattle.std.specs.List.{last_or}
use Rattle.std.specs.Ordering.{is_lt}
use Rattle.std.specs.declared.cmp.Ordering.{Ordering}
use Rattle.std.specs.declared.cmp.Ordering.TheVariants.{Less, Equal, Greater}
use Rattle.std.proofs.lemmas.Bool.{false≢true}
use Rattle.std.proofs.lemmas.Bool.Decides.{nat_tests}
use Rattle.std.proofs.lemmas.List.{append-nil, map-append}
use Rattle.std.proofs.lemmas.List.Elements.{filter-append}
use Rattle.desk_base.specs.declared.search.results.Position.{Position}
use Rattle.desk_base.specs.declared.search.results.Found.{Found}
use Rattle.desk_base.specs.rules.Limits.{passed_limit}
use Rattle.desk_base.specs.search.Order.{position_cmp}
use Rattle.desk_base.specs.search.OrderLaws.{position_total}
use Rattle.desk_base.specs.search.Page.{passed_of, page_of}
use Rattle.desk_base.specs.search.Positions.{is_full, found_of, precedes, positions_after, rows_among}
use Rattle.desk_base.proofs.lists.Members.{IsIn, contains_from_in, in_from_contains}
use Rattle.desk_base.proofs.lists.Filtered.{all_pass, none_pass}
use Rattle.desk_pruned.specs.Ways.{Ways, IsSound}
use Rattle.desk_pruned.specs.Cuts.{IsNextLive, IsLast}
use Rattle.desk_pruned.specs.Trails.{cut_after}
use Rattle.desk_pruned.proofs.paging.Successors.{next_first}

lt_is : (o : Ordering) → is_lt o ≡ true → o ≡ Less
lt_is Less e = refl
lt_is Equal e = absurd (false≢true e)
lt_is Greater e = absurd (false≢true e)

module _ (w : Ways) (sound : IsSound w) where
  -- the next live position is the first of those that are left
  pub next_is_first : (a : Option Position) (b : Position) → IsNextLive w (cut_after a) b → positions_after a w.lives ≡ b ∷ positions_after (Some b) w.lives
  next_is_first None b next =
      sym (all_pass (λ p. true) w.lives (λ p i. refl))
      ∙ next_first position_cmp position_total (λ p. true) b w.lives sound.rising (in_from_contains w.lives b next.0) refl (λ p i t. next.2 p (contains_from_in w.lives p i) tt) (λ p l. refl)
  next_is_first (Some a) b next =
      next_first position_cmp position_total (precedes a) b w.lives sound.rising (in_from_contains w.lives b next.0) (ap is_lt next.1) (λ p i t. next.2 p (contains_from_in w.lives p i) (lt_is (position_cmp a p) t))
      (λ p l. ap is_lt (position_total.trans a b p next.1 l))

  nothing_in : (ps : List Position) → ((p : Position) → IsIn p ps → ⊥) → ps ≡ []
  nothing_in [] h = refl
  nothing_in (p ∷ ps) h = absurd (h p (inl refl))

  pub none_is_left : (a : Option Position) → IsLast w (cut_after a) → positions_after a w.lives ≡ []
  none_is_left None last = nothing_in w.lives (λ p i. last p (contains_from_in w.lives p i) tt)
  none_is_left (Some a) last = none_pass (precedes a) w.lives (λ p i. by (position_cmp a p) (λ l. last p (contains_from_in w.lives p i) l))
    where
      by : (o : Ordering) → (o ≡ Less → ⊥) → is_lt o ≡ false
      by Less h = absurd (h refl)
      by Equal h = refl
      by Greater h = refl

-- ---- the page so far

pub rows_among-append : (leaves : ℕ) (xs ys : List Position) → rows_among leaves (xs ++ ys) ≡ rows_among leaves xs ++ rows_among leaves ys
rows_among-append leaves xs ys = ap (map found_of) (filter-append (is_full leaves) xs ys) ∙ map-append found_of (filter (is_full leaves) xs) (filter (is_full leaves) ys)

pass_one : (leaves f m : ℕ) (p : Position) (rest : List Position) (full many : ℕ) → full ≡ suc f → many ≡ suc m → passed_of leaves full many (p ∷ rest) ≡ p ∷ passed_of leaves (cond (is_full leaves p) f (suc f)) m rest
pass_one leaves f m p rest full many e d = ap (λ n. passed_of leaves n many (p ∷ rest)) e ∙ ap (λ n. passed_of leaves (suc f) n (p ∷ rest)) d

full_left : (leaves f : ℕ) (p : Position) → cond (is_full leaves p) f (suc f) ≡ suc f - length (rows_among leaves (p ∷ []))
full_left leaves f p = by (is_full leaves p)
  where
    by : (b : Bool) → cond b f (suc f) ≡ suc f - length (map found_of (cond b (p ∷ []) []))
    by true = omega arith
    by false = omega arith

pub last-push : (o : Option Position) (xs : List Position) (p : Position) → last_or o (xs ++ p ∷ []) ≡ Some p
last-push o [] p = refl
last-push o (x ∷ xs) p = last-push (Some x) xs p

pub last_some : (o : Option Position) (x : Position) (xs : List Position) → (n : Position) × (last_or o (x ∷ xs) ≡ Some n)
last_some o x [] = (x, refl)
last_some o x (y ∷ ys) = last_some (Some x) y ys

-- of a list, what was passed and what is left, with the rows
pub record IsPassing (leaves limit : ℕ) (whole rest passed : List Position) (rows : List Found) (done : ℕ) : Type 0 where
  pub front : whole ≡ passed ++ rest
  pub passes : passed_of leaves limit passed_limit whole ≡ passed ++ passed_of leaves (limit - length rows) (passed_limit - done) rest
  pub rows_are : rows ≡ rows_among leaves passed
  pub count : length passed ≡ done

module _ (leaves limit : ℕ) (whole : List Position) where
  pub passing_first : (rest : List Position) → whole ≡ rest → IsPassing leaves limit whole rest [] [] 0
  passing_first rest e = record { front = e; passes = ap (passed_of leaves limit passed_limit) e ∙ ap (λ n. passed_of leaves n passed_limit rest) (less_nothing limit); rows_are = refl; count = refl }
    where
      less_nothing : (n : ℕ) → n ≡ n - 0
      less_nothing n = omega arith

  pub passing_more : (rest more passed : List Position) (rows grown : List Found) (done : ℕ) (p : Position) → IsPassing leaves limit whole rest passed rows done → length rows < limit → done < passed_limit
      → rest ≡ p ∷ more → grown ≡ rows ++ rows_among leaves (p ∷ []) → IsPassing leaves limit whole more (passed ++ p ∷ []) grown (done + 1)
  passing_more rest more passed rows grown done p h room time here e = record {
    front = h.front ∙ ap (λ l. passed ++ l) here ∙ sym (append_assoc passed (p ∷ []) more);
    passes = h.passes ∙ ap (λ l. passed ++ l) (ap (passed_of leaves (limit - length rows) (passed_limit - done)) here ∙ one) ∙ sym (append_assoc passed (p ∷ []) left);
    rows_are = e ∙ ap (λ l. l ++ rows_among leaves (p ∷ [])) h.rows_are ∙ sym (rows_among-append leaves passed (p ∷ []));
    count = length-append passed (p ∷ []) ∙ ap (λ n. n + 1) h.count;
  }
    where
      left : List Position
      left = passed_of leaves (limit - length grown) (passed_limit - (done + 1)) more

      full_now : cond (is_full leaves p) (limit - length rows - 1) (suc (limit - length rows - 1)) ≡ limit - length grown
      full_now =
          let size = ap length e ∙ length-append rows (rows_among leaves (p ∷ [])) in
          full_left leaves (limit - length rows - 1) p ∙ by (length rows) (length (rows_among leaves (p ∷ []))) (length grown) room size
        where
          by : (n m k : ℕ) → n < limit → k ≡ n + m → suc (limit - n - 1) - m ≡ limit - k
          by n m k h e = omega arith

      one : passed_of leaves (limit - length rows) (passed_limit - done) (p ∷ more) ≡ p ∷ left
      one =
          pass_one leaves (limit - length rows - 1) (passed_limit - (done + 1)) p more (limit - length rows) (passed_limit - done) (by_room (length rows) room) (by_time done time)
          ∙ ap (λ n. p ∷ passed_of leaves n (passed_limit - (done + 1)) more) full_now
        where
          by_room : (n : ℕ) → n < limit → limit - n ≡ suc (limit - n - 1)
          by_room n h = omega arith

          by_time : (n : ℕ) → n < passed_limit → passed_limit - n ≡ suc (passed_limit - (n + 1))
          by_time n h = omega arith

  no_full : (many full : ℕ) (ps : List Position) → full ≡ 0 → passed_of leaves full many ps ≡ []
  no_full many full [] e = refl
  no_full many zero (p ∷ ps) e = refl
  no_full many (suc f) (p ∷ ps) e = absurd (omega arith)

  no_many : (full many : ℕ) (ps : List Position) → many ≡ 0 → passed_of leaves full many ps ≡ []
  no_many full many [] e = refl
  no_many zero many (p ∷ ps) e = refl
  no_many (suc f) zero (p ∷ ps) e = refl
  no_many (suc f) (suc m) (p ∷ ps) e = absurd (omega arith)

  pub all_passed : (rest passed : List Position) (rows : List Found) (done : ℕ) (found : Bool) → IsPassing leaves limit whole rest passed rows done → (found ≡ false) ⊎ ((limit ≤ length rows) ⊎ (passed_limit ≤ done)) → (found ≡ false → rest ≡ [])
      → passed_of leaves limit passed_limit whole ≡ passed
  all_passed rest passed rows done found h stop last = h.passes ∙ ap (λ l. passed ++ l) (by stop) ∙ append-nil passed
    where
      by : (found ≡ false) ⊎ ((limit ≤ length rows) ⊎ (passed_limit ≤ done)) → passed_of leaves (limit - length rows) (passed_limit - done) rest ≡ []
      by (inl e) = ap (passed_of leaves (limit - length rows) (passed_limit - done)) (last e)
      by (inr (inl h)) = no_full (passed_limit - done) (limit - length rows) rest (omega arith)
      by (inr (inr h)) = no_many (limit - length rows) (passed_limit - done) rest (omega arith)

  pub same_is_true : (m n : ℕ) → m ≡ n → (m == n) ≡ true
  same_is_true m n e = grind (arith, nat_tests)

  other_is_false : (m n : ℕ) → m < n → (m == n) ≡ false
  other_is_false m n h = grind (arith, nat_tests)

  pub end_is : (rest passed : List Position) (found : Bool) → whole ≡ passed ++ rest → (found ≡ false → rest ≡ []) → (found ≡ true → (p : Position) × (more : List Position) × (rest ≡ p ∷ more)) → not found ≡ (length passed == length whole)
  end_is rest passed true front last more =
      let m = more refl in
      let size = ap length front ∙ length-append passed rest in
      let long = ap length m.2 in
      sym (other_is_false (length passed) (length whole) (omega (arith, size, long)))
  end_is rest passed false front last more =
      let size = ap length front ∙ length-append passed rest in
      let none = ap length (last refl) in
      sym (same_is_true (length passed) (length whole) (omega (arith, size, none)))

-- ---- pages of all live positions

-- the positions that were passed, with their rows and the last of them
pub record IsSoFar (w : Ways) (a : Option Position) (limit : ℕ) (passed : List Position) (rows : List Found) (next : Option Position) (done : ℕ) : Type 0 where
  pub passing : IsPassing w.leaves limit (positions_after a w.lives) (positions_after next w.lives) passed rows done
  pub next_is : next ≡ last_or a passed

module _ (w : Ways) (sound : IsSound w) (a : Option Position) (limit : ℕ) where
  pub so_far_first : (rows : List Found) (next : Option Position) → rows ≡ [] → next ≡ a → IsSoFar w a limit [] rows next 0
  so_far_first rows next e d =
      subst (λ r. IsSoFar w a limit [] r next 0) (sym e) (subst (λ n. IsSoFar w a limit [] [] n 0) (sym d) (record { passing = passing_first w.leaves limit (positions_after a w.lives) (positions_after a w.lives) refl; next_is = refl }))

  pub so_far_more : (passed : List Position) (rows grown : List Found) (next : Option Position) (done : ℕ) (p : Position) → IsSoFar w a limit passed rows next done → length rows < limit → done < passed_limit
      → IsNextLive w (cut_after next) p → grown ≡ rows ++ rows_among w.leaves (p ∷ []) → IsSoFar w a limit (passed ++ p ∷ []) grown (Some p) (done + 1)
  so_far_more passed rows grown next done p h room time live e = record {
    passing = passing_more w.leaves limit (positions_after a w.lives) (positions_after next w.lives) (positions_after (Some p) w.lives) passed rows grown done p h.passing room time (next_is_first w sound next p live) e;
    next_is = sym (last-push a passed p);
  }

  pub page_is : (shown : ℕ) (passed : List Position) (rows : List Found) (next : Option Position) (done : ℕ) (found : Bool) → IsSoFar w a limit passed rows next done → (found ≡ false) ⊎ ((limit ≤ length rows) ⊎ (passed_limit ≤ done))
      → (found ≡ false → IsLast w (cut_after next)) → (found ≡ true → (p : Position) × IsNextLive w (cut_after next) p) → record { rows = rows; next = next; shown = None; end = not found } ≡ page_of w.leaves None (record { after = a; shown = shown }) limit (positions_after a w.lives)
  page_is shown passed rows next done found h stop last more =
      let none : found ≡ false → positions_after next w.lives ≡ [] = λ e. none_is_left w sound next (last e) in
      let first : found ≡ true → (p : Position) × (more : List Position) × (positions_after next w.lives ≡ p ∷ more) = λ e. let m = more e in (m.0, positions_after (Some m.0) w.lives, next_is_first w sound next m.0 m.1) in
      let all = all_passed w.leaves limit (positions_after a w.lives) (positions_after next w.lives) passed rows done found h.passing stop none in
      let ended = end_is w.leaves limit (positions_after a w.lives) (positions_after next w.lives) passed found h.passing.front none first in
      λ i. record {
        rows = (h.passing.rows_are ∙ ap (rows_among w.leaves) (sym all)) i;
        next = (h.next_is ∙ ap (last_or a) (sym all)) i;
        shown = None;
        end = (ended ∙ ap (λ l. length l == length (positions_after a w.lives)) (sym all)) i;
      }

  pub count_is : (passed : List Position) (rows : List Found) (next : Option Position) (done : ℕ) (found : Bool) → IsSoFar w a limit passed rows next done → (found ≡ false) ⊎ ((limit ≤ length rows) ⊎ (passed_limit ≤ done)) → (found ≡ false → IsLast w (cut_after next))
      → length (passed_of w.leaves limit passed_limit (positions_after a w.lives)) ≡ done
  count_is passed rows next done found h stop last =
      ap length (all_passed w.leaves limit (positions_after a w.lives) (positions_after next w.lives) passed rows done found h.passing stop (λ e. none_is_left w sound next (last e))) ∙ h.passing.count
