-- What a page passes: a position of those that are due where it is not at its end, and no more than it must.
use Rattle.std.proofs.Common.{◌≡◌, ℕ, zero, suc, ◌≤◌, ◌<◌, Bool, true, false, cond, List, [], ◌∷◌, ◌==◌, map, filter, take, length, Option, Some, None, ◌⊎◌, inl, inr, refl, sym, ap, ◌∙◌, subst, arith, if◌then◌else◌}
use Rattle.std.proofs.lemmas.Bool.{false≢true}
use Rattle.std.specs.List.{last_or}
use Rattle.desk_base.specs.rows.Types.{Tables, GroupRow, Position, Options, Page}
use Rattle.desk_base.specs.rules.Limits.{passed_limit}
use Rattle.desk_base.specs.search.Positions.{is_full, found_of, rows_among}
use Rattle.desk_base.specs.search.Page.{ResumePoint, ArePending, due_of, passed_of, page_of, IsPage, PassesOne, IsShortest}
use Rattle.desk_base.proofs.lists.Members.{IsIn, in_left, in_right, in-filter, contains_from_in}
use Rattle.desk_base.proofs.searched.Pages.{passed_prefix, last_of}

pub due_pending : (leaves : ℕ) (per : Option ℕ) (point : ResumePoint) (ps : List Position) (p : Position) → IsIn p (due_of leaves per point ps) → IsIn p ps
due_pending leaves None point ps p i = i
due_pending leaves (Some per) point ps p i = (in-filter _ p ps i).0

-- where something is due and may be passed, the first of it is
some_first : (leaves full many : ℕ) (p : Position) (rest : List Position) → 1 ≤ many → (more : List Position) × (passed_of leaves (suc full) many (p ∷ rest) ≡ p ∷ more)
some_first leaves full zero p rest h = absurd (omega arith)
some_first leaves full (suc many) p rest h = (passed_of leaves (if is_full leaves p then full else suc full) many rest, refl)

by_due : (t : Tables) (g : GroupRow) (o : Options) (point : ResumePoint) (full : ℕ) (page : Page) (ps due : List Position) → ArePending t g o point.after ps → due_of (length g.leaves) o.per point ps ≡ due
    → page ≡ page_of (length g.leaves) o.per point (suc full) ps → page.end ≡ false → PassesOne t g o point page
by_due t g o point full page ps [] pending is page_is not_end =
    absurd (false≢true (sym not_end ∙ ap (λ (p : Page). p.end) page_is ∙ ap (λ l. length (passed_of (length g.leaves) (suc full) passed_limit l) == length l) is))
by_due t g o point full page ps (p ∷ rest) pending is page_is not_end =
    let here = passed_of (length g.leaves) (suc full) passed_limit (p ∷ rest) in
    let first = some_first (length g.leaves) full passed_limit p rest (omega arith) in
    let split = passed_prefix (length g.leaves) (suc full) passed_limit (p ∷ rest) in
    let last = last_of point.after p first.0 in
    let there = subst (IsIn last.1) (sym (first.1 ∙ last.2)) (in_right last.1 last.0 (last.1 ∷ []) (inl refl)) in
    let inside = subst (IsIn last.1) (sym is) (subst (IsIn last.1) (sym split.1) (in_left last.1 here split.0 there)) in
    let live = pending.sound last.1 (contains_from_in ps last.1 (due_pending (length g.leaves) o.per point ps last.1 inside)) in
    record {
      position = last.1;
      live = live.0;
      later = live.1;
      pending = ps;
      are_pending = pending;
      due = contains_from_in (due_of (length g.leaves) o.per point ps) last.1 inside;
      next = ap (λ (q : Page). q.next) page_is ∙ ap (λ l. last_or point.after (passed_of (length g.leaves) (suc full) passed_limit l)) is ∙ ap (last_or point.after) first.1 ∙ last.3;
    }

pub page_passes : (t : Tables) (g : GroupRow) (o : Options) (point : ResumePoint) (limit : ℕ) (page : Page) → 1 ≤ limit → IsPage t g o point limit page → page.end ≡ false → PassesOne t g o point page
page_passes t g o point zero page low h not_end = absurd (omega arith)
page_passes t g o point (suc full) page low h not_end = by_due t g o point full page h.0 (due_of (length g.leaves) o.per point h.0) h.1 refl h.2 not_end

-- ---- the shortest prefix

one_more : (leaves : ℕ) (p : Position) (ps : List Position) (b : Bool) → is_full leaves p ≡ b → length (rows_among leaves (p ∷ ps)) ≡ cond b (suc (length (rows_among leaves ps))) (length (rows_among leaves ps))
one_more leaves p ps true e = ap (λ c. length (map found_of (cond c (p ∷ filter (is_full leaves) ps) (filter (is_full leaves) ps)))) e
one_more leaves p ps false e = ap (λ c. length (map found_of (cond c (p ∷ filter (is_full leaves) ps) (filter (is_full leaves) ps)))) e

pub passed_shortest : (leaves full many : ℕ) (ps : List Position) → IsShortest leaves full many ps (passed_of leaves full many ps)
passed_shortest leaves full many [] = record { rest = []; prefix = refl; enough = inl refl; none_shorter = λ k h. absurd (omega arith) }
passed_shortest leaves zero many (p ∷ ps) = record { rest = p ∷ ps; prefix = refl; enough = inr (inl refl); none_shorter = λ k h. absurd (omega arith) }
passed_shortest leaves (suc full) zero (p ∷ ps) = record { rest = p ∷ ps; prefix = refl; enough = inr (inr refl); none_shorter = λ k h. absurd (omega arith) }
passed_shortest leaves (suc full) (suc many) (p ∷ ps) = by (is_full leaves p) refl (passed_shortest leaves (cond (is_full leaves p) full (suc full)) many ps)
  where
    more : Bool → List Position
    more b = passed_of leaves (cond b full (suc full)) many ps

    enough_by : (b : Bool) → is_full leaves p ≡ b → (rest : List Position) → (rest ≡ []) ⊎ ((length (rows_among leaves (more b)) ≡ cond b full (suc full)) ⊎ (length (more b) ≡ many))
        → (rest ≡ []) ⊎ ((length (rows_among leaves (p ∷ more b)) ≡ suc full) ⊎ (length (p ∷ more b) ≡ suc many))
    enough_by b e rest (inl h) = inl h
    enough_by true e rest (inr (inl h)) = inr (inl (one_more leaves p (more true) true e ∙ ap suc h))
    enough_by false e rest (inr (inl h)) = inr (inl (one_more leaves p (more false) false e ∙ h))
    enough_by b e rest (inr (inr h)) = inr (inr (ap suc h))

    shorter_by : (b : Bool) → is_full leaves p ≡ b → ((k : ℕ) → k < length (more b) → (length (rows_among leaves (take k (more b))) < cond b full (suc full)) × (k < many))
        → (k : ℕ) → k < length (p ∷ more b) → (length (rows_among leaves (take k (p ∷ more b))) < suc full) × (k < suc many)
    shorter_by b e h zero l = (omega arith, omega arith)
    shorter_by true e h (suc k) l = let r = h k (omega arith) in let m = one_more leaves p (take k (more true)) true e in (omega (arith, r.0, m), omega (arith, r.1))
    shorter_by false e h (suc k) l = let r = h k (omega arith) in let m = one_more leaves p (take k (more false)) false e in (omega (arith, r.0, m), omega (arith, r.1))

    by : (b : Bool) → is_full leaves p ≡ b → IsShortest leaves (cond b full (suc full)) many ps (more b) → IsShortest leaves (suc full) (suc many) (p ∷ ps) (p ∷ more b)
    by b e h = record { rest = h.rest; prefix = ap (λ l. p ∷ l) h.prefix; enough = enough_by b e h.rest h.enough; none_shorter = shorter_by b e h.none_shorter }
