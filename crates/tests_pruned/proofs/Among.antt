-- The least start of a pick among positions.
use Rattle.std.proofs.Common.{◌≡◌, ℕ, ◌-◌, length, take, drop, get_or, ◌<◌, ◌≤◌, Bool, true, false, cond, nat_lt, List, [], ◌∷◌, Option, Some, None, ◌⊎◌, inl, inr, refl, sym, ap, ◌∙◌, subst, arith}
use Rattle.std.proofs.Math.Seq.{drop-cons}
use Rattle.std.proofs.lemmas.List.{take_all, length-drop}
use Rattle.std.specs.Prelude.{Contains}
use Rattle.std.proofs.lemmas.Bool.Decides.{nat_tests}
use Rattle.desk_base.specs.declared.search.results.Position.{Position}
use Rattle.desk_base.specs.search.Positions.{position_at}
use Rattle.desk_base.proofs.lists.Members.{contains_from_in, in_from_contains}
use Rattle.desk_pruned.specs.Ways.{IsFirstStart}
use Rattle.tests_pruned.specs.declared.listed.Listed.{Listed}
use Rattle.tests_pruned.specs.Listed.{IsFirstAmong, earlier_of, ways_of}

pub contains_first : (p : Position) (ps : List Position) (q : Position) → q ≡ p → Contains (p ∷ ps) q
contains_first p ps q e = contains_from_in (p ∷ ps) q (inl e)

pub contains_later : (p : Position) (ps : List Position) (q : Position) → Contains ps q → Contains (p ∷ ps) q
contains_later p ps q h = contains_from_in (p ∷ ps) q (inr (in_from_contains ps q h))

pub contains_cases : (p : Position) (ps : List Position) (q : Position) → Contains (p ∷ ps) q → (q ≡ p) ⊎ Contains ps q
contains_cases p ps q h = elim (in_from_contains (p ∷ ps) q h) [ inl e ↦ inl e | inr i ↦ inr (contains_from_in ps q i) ]

-- the first of the positions is not the pick alone, or starts too early
pub among_rest : (p : Position) (ps : List Position) (x : Option ℕ) (from : ℕ) (o : Option ℕ) → ((from ≤ p.start) → p.picks ≡ x ∷ [] → ⊥) → IsFirstAmong ps x from o → IsFirstAmong (p ∷ ps) x from o
among_rest p ps x from None other h = λ u l c. elim (contains_cases p ps (position_at u (x ∷ [])) c) [
  | inl e ↦ other (subst (λ (q : Position). from ≤ q.start) e l) (sym (ap (λ (q : Position). q.picks) e))
  | inr d ↦ h u l d
]
among_rest p ps x from (Some t) other h = (
  h.0,
  contains_later p ps (position_at t (x ∷ [])) h.1,
  λ u l c. elim (contains_cases p ps (position_at u (x ∷ [])) c) [
    | inl e ↦ absurd (other (subst (λ (q : Position). from ≤ q.start) e l) (sym (ap (λ (q : Position). q.picks) e)))
    | inr d ↦ h.2 u l d
  ],
)

among_by : (p : Position) (ps : List Position) (x : Option ℕ) (from t : ℕ) → from ≤ p.start → p.picks ≡ x ∷ [] → IsFirstAmong ps x from (Some t) → (b : Bool) → nat_lt t p.start ≡ b → IsFirstAmong (p ∷ ps) x from (Some (cond b t p.start))
among_by p ps x from t low e h true f = (
  h.0,
  contains_later p ps (position_at t (x ∷ [])) h.1,
  λ u l c. elim (contains_cases p ps (position_at u (x ∷ [])) c) [
    | inl g ↦ let k = ap (λ (q : Position). q.start) g in omega (arith, k, below t p.start f)
    | inr d ↦ h.2 u l d
  ],
)
  where
    below : (m n : ℕ) → nat_lt m n ≡ true → m < n
    below m n h = grind (arith, nat_tests)
among_by p ps x from t low e h false f = (
  low,
  contains_first p ps (position_at p.start (x ∷ [])) (ap (position_at p.start) (sym e)),
  λ u l c. elim (contains_cases p ps (position_at u (x ∷ [])) c) [
    | inl g ↦ let k = ap (λ (q : Position). q.start) g in omega (arith, k)
    | inr d ↦ let m = h.2 u l d in omega (arith, m, not_below t p.start f)
  ],
)
  where
    not_below : (m n : ℕ) → nat_lt m n ≡ false → n ≤ m
    not_below m n h = grind (arith, nat_tests)

pub among_first : (p : Position) (ps : List Position) (x : Option ℕ) (from : ℕ) (o : Option ℕ) → from ≤ p.start → p.picks ≡ x ∷ [] → IsFirstAmong ps x from o → IsFirstAmong (p ∷ ps) x from (Some (earlier_of p.start o))
among_first p ps x from None low e h = (
  low,
  contains_first p ps (position_at p.start (x ∷ [])) (ap (position_at p.start) (sym e)),
  λ u l c. elim (contains_cases p ps (position_at u (x ∷ [])) c) [
    | inl g ↦ let k = ap (λ (q : Position). q.start) g in omega (arith, k)
    | inr d ↦ absurd (h u l d)
  ],
)
among_first p ps x from (Some t) low e h = among_by p ps x from t low e h (nat_lt t p.start) refl

pub first_split : (xs rest : List Position) (x : Position) → 1 ≤ length xs → x ≡ get_or xs 0 x → rest ≡ take (length xs - 1) (drop 1 xs) → xs ≡ x ∷ rest
first_split xs rest x h e d =
    let size = length-drop 1 xs in
    let here : drop 0 xs ≡ x ∷ drop 1 xs = drop-cons xs 0 x (omega arith) ∙ ap (λ y. y ∷ drop 1 xs) (sym e) in
    here ∙ ap (λ l. x ∷ l) (sym (d ∙ take_all (length xs - 1) (drop 1 xs) (omega (arith, size))))

pub is_first_start : (s : Listed) (x : Option ℕ) (from : ℕ) (o : Option ℕ) → IsFirstAmong s.lives x from o → IsFirstStart (ways_of s) x from o
is_first_start s x from None h = h
is_first_start s x from (Some t) h = h
