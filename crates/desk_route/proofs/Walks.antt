-- Walks over rows of literal tokens, with one parameter at most.
use Rattle.std.proofs.Common.{◌≡◌, ◌≢◌, ℕ, zero, suc, ◌+◌, ◌-◌, ◌==◌, Bool, true, false, ◌&&◌, cond, List, [], ◌∷◌, ◌++◌, length, length-append, drop, refl, sym, ap, ◌∙◌, subst, Option, Some, None, inl, inr, ◌⊎◌, arith, nat_eq, ltb}
use Rattle.std.specs.List.{ends_with, AllByRecursion}
use Rattle.std.proofs.lemmas.List.{append-nil}
use Rattle.std.proofs.lemmas.Bool.Decides.{nat_tests}
use Rattle.matchit.specs.Rows.{RowsOf}
use Rattle.matchit.specs.Seek.{seek, first, step, or_else, param_step, has_slash, segment}

-- the text has only tokens that stand for bytes
abbrev pub IsLiteral : List ℕ → Type 0
IsLiteral [] = Unit {0}
IsLiteral (x ∷ xs) = ((x == 256) ≡ false) × ((x == 257) ≡ false) × IsLiteral xs

pub decide : (a b : ℕ) → (a ≡ b) ⊎ ((a == b) ≡ false)
decide a b = by (a == b) refl
  where
    by : (v : Bool) → (a == b) ≡ v → (a ≡ b) ⊎ ((a == b) ≡ false)
    by true e = inl (grind (arith, nat_tests))
    by false e = inr e

pub self : (a : ℕ) → (a == a) ≡ true
self a = grind (arith, nat_tests)

module _ {K : Type 0} where
  no_rows : (b : Bool) (x : ℕ) → (cond {A = ℕ × RowsOf K} b (0, []) (x, [])).1 ≡ []
  no_rows true x = refl
  no_rows false x = refl

  param_none : (path : List ℕ) → (param_step {K = K} [] path).1 ≡ []
  unfolding param_step
  param_none path = no_rows (has_slash path) (length path)

  -- no rows lead nowhere
  pub none_seek : (n : ℕ) (path : List ℕ) → seek {K = K} n [] path ≡ None
  unfolding seek
  none_seek n [] = refl
  none_seek (suc n) (b ∷ path) = none_seek n path
  none_seek zero (b ∷ path) =
      let p = param_none (b ∷ path) in
      rw (none_seek zero path, p, none_seek ((param_step {K = K} [] (b ∷ path)).0 - 1) path) refl

  or_none : (o : Option K) → or_else o None ≡ o
  or_none None = refl
  or_none (Some k) = refl

  -- where no row goes on with a parameter, the walk goes on with the byte
  pub step_byte : (rs : RowsOf K) (b : ℕ) (path : List ℕ) → step 256 rs ≡ [] → step 257 rs ≡ [] → first rs (b ∷ path) ≡ first (step b rs) path
  unfolding seek
  step_byte rs b path p c =
      rw (p, c, param_none (b ∷ path), none_seek ((param_step {K = K} [] (b ∷ path)).0 - 1) path, or_none (seek 0 (step b rs) path)) refl

  -- the rows after a text
  abbrev pub steps : List ℕ → RowsOf K → RowsOf K
  steps [] rs = rs
  steps (b ∷ w) rs = steps w (step b rs)

  -- on the way no row has a parameter
  abbrev pub AreLiteral : List ℕ → RowsOf K → Type 0
  AreLiteral [] rs = Unit {0}
  AreLiteral (b ∷ w) rs = (step 256 rs ≡ []) × (step 257 rs ≡ []) × AreLiteral w (step b rs)

  pub walked : (w : List ℕ) (rs : RowsOf K) (path : List ℕ) → AreLiteral w rs → first rs (w ++ path) ≡ first (steps w rs) path
  walked [] rs path h = refl
  walked (b ∷ w) rs path h = step_byte rs b (w ++ path) h.0 h.1 ∙ walked w (step b rs) path h.2

  -- ---- one row

  one_step : (x : ℕ) (w : List ℕ) (k : K) (b : ℕ) → (x == b) ≡ false → step b ((x ∷ w, k) ∷ []) ≡ []
  one_step x w k b e = rw e refl

  -- a row with a text in front is that of a path with the text in front
  pub front : (w t : List ℕ) (k r : K) (path : List ℕ) → IsLiteral w → first ((w ++ t, k) ∷ []) path ≡ Some r
      → (rest : List ℕ) × (path ≡ w ++ rest) × (first ((t, k) ∷ []) rest ≡ Some r)
  unfolding seek
  front [] t k r path h e = (path, refl, e)
  front (x ∷ w) t k r [] h e = let f : None ≡ Some r = e in absurd (cc)
  front (x ∷ w) t k r (b ∷ path) h e = by (λ here. front w t k r path h.2 here) (decide x b)
    where
      there : first (step b ((x ∷ (w ++ t), k) ∷ [])) path ≡ Some r
      there = sym (step_byte ((x ∷ (w ++ t), k) ∷ []) b path (one_step x (w ++ t) k 256 h.0) (one_step x (w ++ t) k 257 h.1)) ∙ e

      by : (first ((w ++ t, k) ∷ []) path ≡ Some r → (rest : List ℕ) × (path ≡ w ++ rest) × (first ((t, k) ∷ []) rest ≡ Some r))
          → (x ≡ b) ⊎ ((x == b) ≡ false) → (rest : List ℕ) × (b ∷ path ≡ x ∷ (w ++ rest)) × (first ((t, k) ∷ []) rest ≡ Some r)
      by next (inl same) =
          let at : first (step x ((x ∷ (w ++ t), k) ∷ [])) path ≡ Some r = subst (λ y. first (step y ((x ∷ (w ++ t), k) ∷ [])) path ≡ Some r) (sym same) there in
          let rest = next (rw (self x) at at) in
          (rest.0, ap (λ y. y ∷ path) (sym same) ∙ ap (λ l. x ∷ l) rest.1, rest.2)
      by next (inr other) =
          let gone : first {K = K} [] path ≡ Some r = rw other at there in
          let f : None ≡ Some r = sym (none_seek 0 path) ∙ gone in
          absurd (cc)

  -- the row of the empty text is that of the empty path
  pub at_end : (k r : K) (path : List ℕ) → first (([], k) ∷ []) path ≡ Some r → (path ≡ []) × (k ≡ r)
  unfolding seek
  at_end k r [] e = let f : Some k ≡ Some r = e in (refl, cc)
  at_end k r (b ∷ path) e =
      let f : None ≡ Some r = sym (step_byte (([], k) ∷ []) b path refl refl ∙ none_seek 0 path) ∙ e in
      absurd (cc)

  pub literal : (w : List ℕ) (k r : K) (path : List ℕ) → IsLiteral w → first ((w, k) ∷ []) path ≡ Some r → (path ≡ w) × (k ≡ r)
  literal w k r path h e =
      let found = front w [] k r path h (subst (λ t. first ((t, k) ∷ []) path ≡ Some r) (sym (append-nil w)) e) in
      let end = at_end k r found.0 found.2 in
      (found.1 ∙ ap (λ l. w ++ l) end.0 ∙ append-nil w, end.1)

-- ---- a parameter in front of a slash

-- no byte of the text is a slash
abbrev pub NoSlash : List ℕ → Type 0
NoSlash part = AllByRecursion (λ b. (b == 47) ≡ false) part

-- a text up to its first slash, and the rest, if there is a slash
pub slash_cut : (path : List ℕ) → (part rest : List ℕ) × (path ≡ part ++ rest) × NoSlash part × ((rest ≡ []) ⊎ ((more : List ℕ) × (rest ≡ 47 ∷ more)))
slash_cut [] = ([], [], refl, tt, inl refl)
slash_cut (b ∷ path) = by (slash_cut path) (decide b 47)
  where
    by : ((part rest : List ℕ) × (path ≡ part ++ rest) × NoSlash part × ((rest ≡ []) ⊎ ((more : List ℕ) × (rest ≡ 47 ∷ more)))) → (b ≡ 47) ⊎ ((b == 47) ≡ false)
        → (part rest : List ℕ) × (b ∷ path ≡ part ++ rest) × NoSlash part × ((rest ≡ []) ⊎ ((more : List ℕ) × (rest ≡ 47 ∷ more)))
    by cut (inl e) = ([], b ∷ path, refl, tt, inr (path, ap (λ x. x ∷ path) e))
    by cut (inr n) = (b ∷ cut.0, cut.1, ap (λ l. b ∷ l) cut.2, (n, cut.3), cut.4)

segment_part : (part rest : List ℕ) → NoSlash part → segment (part ++ 47 ∷ rest) ≡ part ++ 47 ∷ []
segment_part [] rest h = refl
segment_part (b ∷ part) rest h = rw h.0 (ap (λ l. b ∷ l) (segment_part part rest h.1))

segment_all : (part : List ℕ) → NoSlash part → segment (part ++ []) ≡ part
segment_all [] h = refl
segment_all (b ∷ part) h = rw h.0 (ap (λ l. b ∷ l) (segment_all part h.1))

no_slash_in : (part : List ℕ) → NoSlash part → has_slash (part ++ []) ≡ false
no_slash_in [] h = refl
no_slash_in (b ∷ part) h = rw h.0 (no_slash_in part h.1)

ends_slash : (part : List ℕ) → ends_with nat_eq (part ++ 47 ∷ []) (47 ∷ []) ≡ true
ends_slash part = rw (length-append part (47 ∷ []), last part) refl
  where
    last : (w : List ℕ) → drop (length w + 1 - 1) (w ++ 47 ∷ []) ≡ 47 ∷ []
    last w = ap (λ n. drop n (w ++ 47 ∷ [])) (same (length w)) ∙ past w
      where
        same : (n : ℕ) → n + 1 - 1 ≡ n
        same n = omega arith

        past : (v : List ℕ) → drop (length v) (v ++ 47 ∷ []) ≡ 47 ∷ []
        past [] = refl
        past (b ∷ v) = past v

less : (n : ℕ) → suc n - 1 ≡ n
less n = omega arith

no_end_from : (part : List ℕ) (b : ℕ) → NoSlash (b ∷ part) → ends_with nat_eq (b ∷ part) (47 ∷ []) ≡ false
no_end_from [] b h = let flip : nat_eq 47 b ≡ false = grind (arith, nat_tests, h.0) in rw flip refl
no_end_from (c ∷ part) b h =
    let rest = no_end_from part c h.1 in
    rw (less (suc (length part))) (rw (less (length part)) at rest)

no_end : (part : List ℕ) → NoSlash part → ends_with nat_eq part (47 ∷ []) ≡ false
no_end [] h = refl
no_end (b ∷ part) h = no_end_from part b h

and_false : (b : Bool) → (b && false) ≡ false
and_false true = refl
and_false false = refl

module _ {K : Type 0} (s : List ℕ) (k : K) where
  abbrev rest_rows : RowsOf K
  rest_rows = (47 ∷ s, k) ∷ []

  abbrev part_rows : RowsOf K
  part_rows = (256 ∷ 47 ∷ s, k) ∷ []

  past_part : (part path : List ℕ) → seek (length part) rest_rows (part ++ path) ≡ seek 0 rest_rows path
  unfolding seek
  past_part [] path = refl
  past_part (b ∷ part) path = past_part part path

  past_all : (part : List ℕ) → seek (length part) rest_rows (part ++ []) ≡ None
  unfolding seek
  past_all part = past_part part []

  param_yes : (b : ℕ) (part rest : List ℕ) → NoSlash (b ∷ part) → param_step rest_rows (b ∷ (part ++ 47 ∷ rest)) ≡ (length part + 1, rest_rows)
  unfolding param_step
  param_yes b part rest h =
      let seg : segment (b ∷ (part ++ 47 ∷ rest)) ≡ b ∷ (part ++ 47 ∷ []) = segment_part (b ∷ part) rest h in
      let len : length (part ++ 47 ∷ []) ≡ length part + 1 = length-append part (47 ∷ []) in
      let ends = ends_slash (b ∷ part) in
      let big : ltb 1 (suc (length part + 1)) ≡ true = grind (arith, nat_tests) in
      let same : suc (length part + 1) - 1 ≡ length part + 1 = omega arith in
      rw (seg, ends, len, big) (ap (λ n. (n, rest_rows)) same)

  param_bare : (b : ℕ) (part : List ℕ) → NoSlash (b ∷ part) → param_step rest_rows (b ∷ (part ++ [])) ≡ (length (b ∷ (part ++ [])), rest_rows)
  unfolding param_step
  param_bare b part h =
      rw (segment_all (b ∷ part) h, no_end (b ∷ part) h, and_false (ltb 1 (length (b ∷ part))), no_slash_in (b ∷ part) h) refl

  param_slash : (rest : List ℕ) → param_step rest_rows (47 ∷ rest) ≡ (0, [])
  unfolding param_step
  param_slash rest = refl

  -- a walk that begins at a parameter
  step_part : (b : ℕ) (path : List ℕ) → first part_rows (b ∷ path)
      ≡ or_else (first (step b part_rows) path) (or_else (seek ((param_step rest_rows (b ∷ path)).0 - 1) (param_step rest_rows (b ∷ path)).1 path) None)
  unfolding seek
  step_part b path = refl

  or_some : (a o : Option K) (r : K) → or_else a o ≡ Some r → (a ≡ Some r) ⊎ (o ≡ Some r)
  or_some None o r e = inr e
  or_some (Some x) o r e = inl e

  abbrev IsFound : List ℕ → K → Type 0
  IsFound path r = (part rest : List ℕ) × NoSlash part × (part ≢ []) × (path ≡ part ++ rest) × (first rest_rows rest ≡ Some r)

  by_token : (b : ℕ) (path : List ℕ) (r : K) → first (step b part_rows) path ≡ Some r → IsFound (b ∷ path) r
  by_token b path r e = elim (decide 256 b) [ inl same ↦ here same | inr other ↦ absurd (gone other) ]
    where
      here : 256 ≡ b → IsFound (b ∷ path) r
      here same =
          let at : first (step 256 part_rows) path ≡ Some r = rw (← same) at e in
          (256 ∷ [], path, (refl, tt), (λ f. cc), ap (λ x. x ∷ path) (sym same), at)

      gone : (256 == b) ≡ false → ⊥
      gone other =
          let at : first {K = K} [] path ≡ Some r = rw other at e in
          let f : None ≡ Some r = sym (none_seek 0 path) ∙ at in
          cc

  by_part : (b : ℕ) (path part rest : List ℕ) (r : K) → b ∷ path ≡ part ++ rest → NoSlash part → ((rest ≡ []) ⊎ ((more : List ℕ) × (rest ≡ 47 ∷ more)))
      → seek ((param_step rest_rows (b ∷ path)).0 - 1) (param_step rest_rows (b ∷ path)).1 path ≡ Some r → IsFound (b ∷ path) r
  by_part b path [] rest r e free (inl none) h = let f : b ∷ path ≡ [] = e ∙ none in absurd (cc)
  by_part b path [] rest r e free (inr more) h =
      let same : b ∷ path ≡ 47 ∷ more.0 = e ∙ more.1 in
      let head : b ≡ 47 = cc in
      let at = rw (head, param_slash path) at h in
      let f : None ≡ Some r = sym (none_seek (0 - 1) path) ∙ at in
      absurd (cc)
  by_part b path (c ∷ part) rest r e free (inl none) h =
      let whole : b ∷ path ≡ c ∷ (part ++ []) = e ∙ ap (λ l. c ∷ (part ++ l)) none in
      let head : b ≡ c = cc in
      let tail : path ≡ part ++ [] = cc in
      let at = rw (head, tail, param_bare c part free) at h in
      let less : suc (length (part ++ [])) - 1 ≡ length part = omega (arith, length-append part []) in
      let f : None ≡ Some r = sym (past_all part) ∙ (rw less at at) in
      absurd (cc)
  by_part b path (c ∷ part) rest r e free (inr more) h =
      let whole : b ∷ path ≡ c ∷ (part ++ 47 ∷ more.0) = e ∙ ap (λ l. c ∷ (part ++ l)) more.1 in
      let head : b ≡ c = cc in
      let tail : path ≡ part ++ 47 ∷ more.0 = cc in
      let at = rw (head, tail, param_yes c part more.0 free) at h in
      let less : length part + 1 - 1 ≡ length part = omega arith in
      (c ∷ part, 47 ∷ more.0, free, (λ f. cc), whole, sym (past_part part (47 ∷ more.0)) ∙ (rw less at at))

  -- what is found behind a part
  pub found_part : (path : List ℕ) (r : K) → first part_rows path ≡ Some r → IsFound path r
  unfolding seek
  found_part [] r e = let f : None ≡ Some r = e in absurd (cc)
  found_part (b ∷ path) r e =
      let cut = slash_cut (b ∷ path) in
      elim (or_some _ _ r (sym (step_part b path) ∙ e)) [
        | inl token ↦ by_token b path r token
        | inr param ↦ by_part b path cut.0 cut.1 r cut.2 cut.3 cut.4 (rw (or_none (seek ((param_step rest_rows (b ∷ path)).0 - 1) (param_step rest_rows (b ∷ path)).1 path)) at param)
      ]

  -- and every part is found
  pub part_found : (b : ℕ) (part more : List ℕ) → NoSlash (b ∷ part) → IsLiteral (47 ∷ s) → first rest_rows (47 ∷ more) ≡ Some k → first part_rows (b ∷ (part ++ 47 ∷ more)) ≡ Some k
  part_found b part more free lit there =
      let less : length part + 1 - 1 ≡ length part = omega arith in
      step_part b (part ++ 47 ∷ more)
      ∙ (rw (param_yes b part more free, less, past_part part (47 ∷ more), there) (token (first (step b part_rows) (part ++ 47 ∷ more)) refl))
    where
      token : (o : Option K) → first (step b part_rows) (part ++ 47 ∷ more) ≡ o → or_else o (Some k) ≡ Some k
      token None e = refl
      token (Some r) e = ap (λ x. Some x) (sym (same (by_token b (part ++ 47 ∷ more) r e)))
        where
          same : IsFound (b ∷ (part ++ 47 ∷ more)) r → k ≡ r
          same x = (literal (47 ∷ s) k r x.1 lit x.5).1
