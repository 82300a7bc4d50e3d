-- Picks and positions, one after another and one past another.
use Rattle.std.proofs.Common.{◌≡◌, ℕ, ◌<◌, List, [], ◌∷◌, ◌++◌, Option, Some, None, ◌⊎◌, inl, inr, refl, sym, ap, ◌∙◌, subst, arith, append_assoc}
use Rattle.std.proofs.lemmas.List.{append-nil}
use Rattle.std.proofs.lemmas.Bool.Decides.{nat_tests}
use Rattle.std.proofs.lemmas.Cmp.{ranked}
use Rattle.std.specs.declared.cmp.Ordering.{Ordering}
use Rattle.std.specs.declared.cmp.Ordering.TheVariants.{Less, Equal, Greater}
use Rattle.std.specs.Ordering.{nat_cmp, ordering_then}
use Rattle.std.specs.Cmp.Lexicographic.{slice_cmp}
use Rattle.desk_base.specs.declared.search.results.Position.{Position}
use Rattle.desk_base.specs.search.Order.{pick_cmp, position_cmp}
use Rattle.desk_base.specs.search.OrderLaws.{pick_total, position_total}
use Rattle.desk_pruned.specs.Cuts.{PastPicks, Cut, everything, after, past, IsBeyond}

-- ---- one after the other

pub nat_less : (a b : ℕ) → nat_cmp a b ≡ Less → a < b
nat_less a b h = ranked a b Less (sym h)

pub nat_equal : (a b : ℕ) → nat_cmp a b ≡ Equal → a ≡ b
nat_equal a b h = ranked a b Equal (sym h)

less_nat : (a b : ℕ) → a < b → nat_cmp a b ≡ Less
less_nat a b h = grind (arith, nat_tests)

equal_nat : (a : ℕ) → nat_cmp a a ≡ Equal
equal_nat a = grind (arith, nat_tests)

pub pick_same : (x : Option ℕ) → pick_cmp x x ≡ Equal
pick_same None = refl
pick_same (Some a) = equal_nat a

pub pick_equal : (x y : Option ℕ) → pick_cmp x y ≡ Equal → x ≡ y
pick_equal (Some a) (Some b) h = ap Some (nat_equal a b h)
pick_equal (Some a) None h = cc
pick_equal None (Some b) h = cc
pick_equal None None h = refl

then-less : (a b : Ordering) → a ≡ Less → ordering_then a b ≡ Less
then-less a b h = ap (λ o. ordering_then o b) h

then-same : (a b : Ordering) → a ≡ Equal → b ≡ Less → ordering_then a b ≡ Less
then-same a b h k = ap (λ o. ordering_then o b) h ∙ k

pub then_splits : (a b : Ordering) → ordering_then a b ≡ Less → (a ≡ Less) ⊎ ((a ≡ Equal) × (b ≡ Less))
then_splits Less b h = inl refl
then_splits Equal b h = inr (refl, h)
then_splits Greater b h = cc

pub less_splits : (a p : Position) → position_cmp a p ≡ Less → (a.start < p.start) ⊎ ((a.start ≡ p.start) × (slice_cmp pick_cmp a.picks p.picks ≡ Less))
less_splits a p h =
    elim (then_splits (nat_cmp a.start p.start) (slice_cmp pick_cmp a.picks p.picks) h) [
      | inl l ↦ inl (nat_less a.start p.start l)
      | inr e ↦ inr (nat_equal a.start p.start e.0, e.1)
    ]

pub less_by_start : (a p : Position) → a.start < p.start → position_cmp a p ≡ Less
less_by_start a p h = then-less (nat_cmp a.start p.start) (slice_cmp pick_cmp a.picks p.picks) (less_nat a.start p.start h)

pub less_by_picks : (a p : Position) → a.start ≡ p.start → slice_cmp pick_cmp a.picks p.picks ≡ Less → position_cmp a p ≡ Less
less_by_picks a p e h = then-same (nat_cmp a.start p.start) (slice_cmp pick_cmp a.picks p.picks) (subst (λ s. nat_cmp a.start s ≡ Equal) e (equal_nat a.start)) h

-- ---- picks past picks

-- all that begins with q comes before what is past q
pub past_less : (q e r : List (Option ℕ)) → PastPicks q r → slice_cmp pick_cmp (q ++ e) r ≡ Less
past_less [] e r h = absurd h
past_less (x ∷ q) e [] h = absurd h
past_less (x ∷ q) e (y ∷ r) (inl l) = then-less (pick_cmp x y) (slice_cmp pick_cmp (q ++ e) r) l
past_less (x ∷ q) e (y ∷ r) (inr h) = then-same (pick_cmp x y) (slice_cmp pick_cmp (q ++ e) r) (subst (λ z. pick_cmp x z ≡ Equal) h.0 (pick_same x)) (past_less q e r h.1)

pub past_less_own : (q r : List (Option ℕ)) → PastPicks q r → slice_cmp pick_cmp q r ≡ Less
past_less_own q r h = subst (λ l. slice_cmp pick_cmp l r ≡ Less) (append-nil q) (past_less q [] r h)

-- what comes after q extends it or is past it
pub less_extends : (q r : List (Option ℕ)) → slice_cmp pick_cmp q r ≡ Less → ((z : Option ℕ) × (rest : List (Option ℕ)) × (r ≡ q ++ z ∷ rest)) ⊎ PastPicks q r
less_extends [] [] h = cc
less_extends [] (y ∷ r) h = inl (y, r, refl)
less_extends (x ∷ q) [] h = cc
less_extends (x ∷ q) (y ∷ r) h =
    elim (then_splits (pick_cmp x y) (slice_cmp pick_cmp q r) h) [
      | inl l ↦ inr (inl l)
      | inr e ↦ elim (less_extends q r e.1) [
        | inl f ↦ inl (f.0, f.1, ap (λ u. u ∷ r) (sym (pick_equal x y e.0)) ∙ ap (λ l. x ∷ l) f.2)
        | inr g ↦ inr (inr (pick_equal x y e.0, g))
      ]
    ]

-- what is past q and x extends q by a pick after x, or is past q
pub past_splits : (q : List (Option ℕ)) (x : Option ℕ) (r : List (Option ℕ)) → PastPicks (q ++ x ∷ []) r → ((z : Option ℕ) × (rest : List (Option ℕ)) × (r ≡ q ++ z ∷ rest) × (pick_cmp x z ≡ Less)) ⊎ PastPicks q r
past_splits [] x [] h = absurd h
past_splits [] x (y ∷ r) (inl l) = inl (y, r, refl, l)
past_splits [] x (y ∷ r) (inr h) = absurd h.1
past_splits (u ∷ q) x [] h = absurd h
past_splits (u ∷ q) x (y ∷ r) (inl l) = inr (inl l)
past_splits (u ∷ q) x (y ∷ r) (inr h) =
    elim (past_splits q x r h.1) [
      | inl f ↦ inl (f.0, f.1, ap (λ v. v ∷ r) (sym h.0) ∙ ap (λ l. u ∷ l) f.2, f.3)
      | inr g ↦ inr (inr (h.0, g))
    ]

pub past_longer : (q e r : List (Option ℕ)) → PastPicks q r → PastPicks (q ++ e) r
past_longer [] e r h = absurd h
past_longer (x ∷ q) e [] h = absurd h
past_longer (x ∷ q) e (y ∷ r) (inl l) = inl l
past_longer (x ∷ q) e (y ∷ r) (inr h) = inr (h.0, past_longer q e r h.1)

-- what is past a longer list begins with the shorter one or is past it
pub past_shorter : (q e r : List (Option ℕ)) → PastPicks (q ++ e) r → ((more : List (Option ℕ)) × (r ≡ q ++ more)) ⊎ PastPicks q r
past_shorter [] e r h = inl (r, refl)
past_shorter (x ∷ q) e [] h = absurd h
past_shorter (x ∷ q) e (y ∷ r) (inl l) = inr (inl l)
past_shorter (x ∷ q) e (y ∷ r) (inr h) =
    elim (past_shorter q e r h.1) [
      | inl f ↦ inl (f.0, ap (λ v. v ∷ r) (sym h.0) ∙ ap (λ l. x ∷ l) f.1)
      | inr g ↦ inr (inr (h.0, g))
    ]

pub past_here : (q : List (Option ℕ)) (x z : Option ℕ) (rest : List (Option ℕ)) → pick_cmp x z ≡ Less → PastPicks (q ++ x ∷ []) (q ++ z ∷ rest)
past_here [] x z rest h = inl h
past_here (u ∷ q) x z rest h = inr (refl, past_here q x z rest h)

pub less_here : (q : List (Option ℕ)) (z : Option ℕ) (rest : List (Option ℕ)) → slice_cmp pick_cmp q (q ++ z ∷ rest) ≡ Less
less_here [] z rest = refl
less_here (u ∷ q) z rest = then-same (pick_cmp u u) (slice_cmp pick_cmp q (q ++ z ∷ rest)) (pick_same u) (less_here q z rest)

-- what extends q by a pick that is not before y is q and y, or comes after it
pub from_here : (q : List (Option ℕ)) (y z : Option ℕ) (rest : List (Option ℕ)) → (z ≡ y) ⊎ (pick_cmp y z ≡ Less) → (q ++ z ∷ rest ≡ q ++ y ∷ []) ⊎ (slice_cmp pick_cmp (q ++ y ∷ []) (q ++ z ∷ rest) ≡ Less)
from_here q y z [] (inl e) = inl (ap (λ u. q ++ u ∷ []) e)
from_here q y z (v ∷ rest) (inl e) = inr (
    subst (λ l. slice_cmp pick_cmp (q ++ y ∷ []) l ≡ Less) (append_assoc q (y ∷ []) (v ∷ rest) ∙ ap (λ u. q ++ u ∷ v ∷ rest) (sym e)) (less_here (q ++ y ∷ []) v rest))
from_here q y z rest (inr l) = inr (past_less_own (q ++ y ∷ []) (q ++ z ∷ rest) (past_here q y z rest l))

pub past_up : (q r t : List (Option ℕ)) → PastPicks q r → slice_cmp pick_cmp r t ≡ Less → PastPicks q t
past_up [] r t h k = absurd h
past_up (x ∷ q) [] t h k = absurd h
past_up (x ∷ q) (y ∷ r) [] h k = cc
past_up (x ∷ q) (y ∷ r) (z ∷ t) (inl l) k =
    elim (then_splits (pick_cmp y z) (slice_cmp pick_cmp r t) k) [
      | inl m ↦ inl (pick_total.trans x y z l m)
      | inr e ↦ inl (subst (λ u. pick_cmp x u ≡ Less) (pick_equal y z e.0) l)
    ]
past_up (x ∷ q) (y ∷ r) (z ∷ t) (inr h) k =
    elim (then_splits (pick_cmp y z) (slice_cmp pick_cmp r t) k) [
      | inl m ↦ inl (subst (λ u. pick_cmp u z ≡ Less) (sym h.0) m)
      | inr e ↦ inr (h.0 ∙ pick_equal y z e.0, past_up q r t h.1 e.1)
    ]

-- ---- positions

-- what comes after something beyond a cut is beyond it
pub beyond_up : (k : Cut) (b p : Position) → IsBeyond k b → position_cmp b p ≡ Less → IsBeyond k p
beyond_up everything b p h l = tt
beyond_up (after a) b p h l = position_total.trans a b p h l
beyond_up (past a) b p (inl h) l =
    elim (less_splits b p l) [
      | inl m ↦ inl (omega arith)
      | inr e ↦ inl (omega (arith, e.0))
    ]
beyond_up (past a) b p (inr h) l =
    elim (less_splits b p l) [
      | inl m ↦ inl (omega (arith, h.0))
      | inr e ↦ inr (h.0 ∙ e.0, past_up a.picks b.picks p.picks h.1 e.1)
    ]
