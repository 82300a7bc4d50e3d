-- What a search leaves, step by step.
use Rattle.std.proofs.Common.{◌≡◌, ℕ, ◌≤◌, List, [], ◌∷◌, ◌++◌, length, length-append, Option, Some, None, ◌⊎◌, inl, inr, refl, sym, ap, ◌∙◌, subst, arith, append_assoc}
use Rattle.std.specs.Prelude.{Contains}
use Rattle.std.specs.declared.cmp.Ordering.TheVariants.{Less}
use Rattle.std.specs.Cmp.Lexicographic.{slice_cmp}
use Rattle.desk_base.specs.declared.search.results.Position.{Position}
use Rattle.desk_base.specs.search.Order.{pick_cmp, position_cmp}
use Rattle.desk_base.specs.search.Positions.{position_at}
use Rattle.desk_pruned.specs.Ways.{Ways, IsSound, IsLiveAt, Comes, IsNextPick}
use Rattle.desk_pruned.specs.Cuts.{PastPicks, IsPast, Cut, after, past, IsBeyond, cut_at, IsNextLive, IsLast, LeaveTheSame}
use Rattle.desk_pruned.proofs.cutting.Picks.{less_splits, less_by_start, less_by_picks, past_less, past_less_own, less_extends, past_splits, past_longer, past_shorter, past_here, less_here, from_here}

-- from one start and picks that are known, the position is known
position_is : (s : ℕ) (q : List (Option ℕ)) (p : Position) → s ≡ p.start → p.picks ≡ q → p ≡ position_at s q
position_is s q p e f = ap (λ u. position_at u p.picks) (sym e) ∙ ap (position_at s) f

-- what is left at some picks extends them by a pick that was not tried, or is past them
beyond_splits : (s : ℕ) (q : List (Option ℕ)) (tried : Option (Option ℕ)) (p : Position) → IsBeyond (cut_at s q tried) p
    → ((z : Option ℕ) × (rest : List (Option ℕ)) × (p ≡ position_at s (q ++ z ∷ rest)) × Comes tried z) ⊎ IsPast (position_at s q) p
beyond_splits s q None p h =
    elim (less_splits (position_at s q) p h) [
      | inl l ↦ inr (inl l)
      | inr e ↦ elim (less_extends q p.picks e.1) [
        | inl f ↦ inl (f.0, f.1, position_is s (q ++ f.0 ∷ f.1) p e.0 f.2, tt)
        | inr g ↦ inr (inr (e.0, g))
      ]
    ]
beyond_splits s q (Some x) p (inl l) = inr (inl l)
beyond_splits s q (Some x) p (inr h) =
    elim (past_splits q x p.picks h.1) [
      | inl f ↦ inl (f.0, f.1, position_is s (q ++ f.0 ∷ f.1) p h.0 f.2, f.3)
      | inr g ↦ inr (inr (h.0, g))
    ]

-- what is past the picks is left at them
past_is_beyond : (s : ℕ) (q : List (Option ℕ)) (tried : Option (Option ℕ)) (p : Position) → IsPast (position_at s q) p → IsBeyond (cut_at s q tried) p
past_is_beyond s q None p (inl l) = less_by_start (position_at s q) p l
past_is_beyond s q None p (inr h) = less_by_picks (position_at s q) p h.0 (past_less_own q p.picks h.1)
past_is_beyond s q (Some x) p (inl l) = inl l
past_is_beyond s q (Some x) p (inr h) = inr (h.0, past_longer q (x ∷ []) p.picks h.1)

pub child_is_beyond : (s : ℕ) (q : List (Option ℕ)) (tried : Option (Option ℕ)) (y : Option ℕ) → Comes tried y → IsBeyond (cut_at s q tried) (position_at s (q ++ y ∷ []))
child_is_beyond s q None y h = less_by_picks (position_at s q) (position_at s (q ++ y ∷ [])) refl (less_here q y [])
child_is_beyond s q (Some x) y h = inr (refl, past_here q x y [] h)

module _ (w : Ways) (sound : IsSound w) where
  -- what begins with live picks and one more
  pub live_front : (s : ℕ) (q : List (Option ℕ)) (z : Option ℕ) (rest : List (Option ℕ)) (p : Position) → Contains w.lives p → p ≡ position_at s (q ++ z ∷ rest) → IsLiveAt w s (q ++ z ∷ [])
  live_front s q z rest p live e =
      let some : 1 ≤ length (q ++ z ∷ []) = omega (arith, length-append q (z ∷ [])) in
      sound.begun s (q ++ z ∷ []) rest some (subst (Contains w.lives) (e ∙ ap (position_at s) (sym (append_assoc q (z ∷ []) rest))) live)

  pub none_here : (s : ℕ) (q : List (Option ℕ)) (tried : Option (Option ℕ)) → IsNextPick w s q tried None → LeaveTheSame w (cut_at s q tried) (past (position_at s q))
  none_here s q tried none p live = (
    (λ b. elim (beyond_splits s q tried p b) [ inl f ↦ absurd (none f.0 f.3 (live_front s q f.0 f.1 p live f.2)) | inr h ↦ h ]),
    past_is_beyond s q tried p,
  )

  pub next_here : (s : ℕ) (q : List (Option ℕ)) (tried : Option (Option ℕ)) (y : Option ℕ) → IsNextPick w s q tried (Some y) → IsNextLive w (cut_at s q tried) (position_at s (q ++ y ∷ []))
  next_here s q tried y next = (
    next.0,
    child_is_beyond s q tried y next.1,
    λ p live b.
        elim (beyond_splits s q tried p b) [
          | inl f ↦ elim (from_here q y f.0 f.1 (next.2 f.0 f.3 (live_front s q f.0 f.1 p live f.2))) [
            | inl e ↦ inl (f.2 ∙ ap (position_at s) e)
            | inr l ↦ inr (subst (λ v. position_cmp (position_at s (q ++ y ∷ [])) v ≡ Less) (sym f.2) (less_by_picks (position_at s (q ++ y ∷ [])) (position_at s (q ++ f.0 ∷ f.1)) refl l))
          ]
          | inr h ↦ inr (past_less_there p h)
        ],
  )
    where
      past_less_there : (p : Position) → IsPast (position_at s q) p → position_cmp (position_at s (q ++ y ∷ [])) p ≡ Less
      past_less_there p (inl l) = less_by_start (position_at s (q ++ y ∷ [])) p l
      past_less_there p (inr h) = less_by_picks (position_at s (q ++ y ∷ [])) p h.0 (past_less q (y ∷ []) p.picks h.1)

  pub same_through : (i j k : Cut) → LeaveTheSame w i j → LeaveTheSame w j k → LeaveTheSame w i k
  same_through i j k a b p live = ((λ h. (b p live).0 ((a p live).0 h)), λ h. (a p live).1 ((b p live).1 h))

  pub next_through : (j k : Cut) (b : Position) → LeaveTheSame w j k → IsNextLive w k b → IsNextLive w j b
  next_through j k b same next = (next.0, (same b next.0).1 next.1, λ p live h. next.2 p live ((same p live).0 h))

  pub last_through : (j k : Cut) → LeaveTheSame w j k → IsLast w k → IsLast w j
  last_through j k same last p live h = last p live ((same p live).0 h)

  -- after a position whose first picks are not live
  pub dead_here : (s : ℕ) (q : List (Option ℕ)) (x : Option ℕ) (rest : List (Option ℕ)) → (IsLiveAt w s (q ++ x ∷ []) → ⊥) → LeaveTheSame w (after (position_at s (q ++ x ∷ rest))) (past (position_at s (q ++ x ∷ [])))
  dead_here s q x rest dead p live = (there, back)
    where
      whole : (q ++ x ∷ []) ++ rest ≡ q ++ x ∷ rest
      whole = append_assoc q (x ∷ []) rest

      begun : s ≡ p.start → (more : List (Option ℕ)) → p.picks ≡ (q ++ x ∷ []) ++ more → ⊥
      begun e more f = dead (live_front s q x more p live (position_is s (q ++ x ∷ more) p e (f ∙ append_assoc q (x ∷ []) more)))

      within : s ≡ p.start → PastPicks (q ++ x ∷ rest) p.picks → PastPicks (q ++ x ∷ []) p.picks
      within e h =
          elim (past_shorter (q ++ x ∷ []) rest p.picks (subst (λ l. PastPicks l p.picks) (sym whole) h)) [
            | inl f ↦ absurd (begun e f.0 f.1)
            | inr g ↦ g
          ]

      there : IsBeyond (after (position_at s (q ++ x ∷ rest))) p → IsBeyond (past (position_at s (q ++ x ∷ []))) p
      there h =
          elim (less_splits (position_at s (q ++ x ∷ rest)) p h) [
            | inl l ↦ inl l
            | inr e ↦ elim (less_extends (q ++ x ∷ rest) p.picks e.1) [
              | inl f ↦ absurd (begun e.0 (rest ++ f.0 ∷ f.1) (f.2 ∙ ap (λ l. l ++ f.0 ∷ f.1) (sym whole) ∙ append_assoc (q ++ x ∷ []) rest (f.0 ∷ f.1)))
              | inr g ↦ inr (e.0, within e.0 g)
            ]
          ]

      back : IsBeyond (past (position_at s (q ++ x ∷ []))) p → IsBeyond (after (position_at s (q ++ x ∷ rest))) p
      back (inl l) = less_by_start (position_at s (q ++ x ∷ rest)) p l
      back (inr h) = less_by_picks (position_at s (q ++ x ∷ rest)) p h.0 (subst (λ l. slice_cmp pick_cmp l p.picks ≡ Less) whole (past_less (q ++ x ∷ []) rest p.picks h.1))
