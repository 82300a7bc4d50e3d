-- Memberships that were brought into the order of their members.
use Rattle.std.proofs.Common.{◌≡◌, ℕ, suc, ◌<◌, ◌≤◌, Bool, cond, not, ◌&&◌, ◌==◌, List, [], ◌∷◌, length, get_or, inl, inr, refl, sym, ap, ◌∙◌, arith}
use Rattle.std.proofs.lemmas.Bool.{cases_lt}
use Rattle.std.proofs.lemmas.Bool.Decides.{nat_tests}
use Rattle.std.specs.Prelude.{filter}
use Rattle.std.specs.Ordering.{nat_cmp, is_lt}
use Rattle.std.specs.List.{AllByRecursion}
use Rattle.std.specs.List.Sorted.{IsNonDecreasingBy, IsStableByKey, ties}
use Rattle.desk_base.specs.rows.Ranges.{Rise, IsUnder}
use Rattle.desk_base.specs.declared.rows.resources.MemberRow.{MemberRow}
use Rattle.desk_base.specs.declared.rows.tables.Tables.{Tables}
use Rattle.desk_member.specs.Memberships.{of_member, AreMemberships}

module _ {A : Type 0} (n : A → ℕ) where
  under : (x y : A) → n x ≤ n y → IsUnder n (λ z. 0) x y
  under x y l = elim (cases_lt (n x) (n y)) [ inl a ↦ inl a | inr b ↦ inr (omega arith, omega arith) ]

  all_under : (x : A) (ys : List A) → ((j : ℕ) (d : A) → j < length ys → n x ≤ n (get_or ys j d)) → AllByRecursion (IsUnder n (λ z. 0) x) ys
  all_under x [] h = tt
  all_under x (y ∷ ys) h = (under x y (h 0 y (omega arith)), all_under x ys (λ j d l. h (suc j) d (omega arith)))

  -- numbers that do not fall rise
  pub rise_of_sorted : (xs : List A) → IsNonDecreasingBy n xs → Rise n (λ z. 0) xs
  unfolding Rise
  rise_of_sorted [] h = tt
  rise_of_sorted (x ∷ xs) h = (all_under x xs (λ j d l. h 0 (suc j) d (omega arith) (omega arith)), rise_of_sorted xs (λ i j d p q. h (suc i) (suc j) d (omega arith) (omega arith)))

filter_tests : {A : Type 0} (p q : A → Bool) (xs : List A) → ((x : A) → p x ≡ q x) → filter p xs ≡ filter q xs
filter_tests p q [] h = refl
filter_tests p q (x ∷ xs) h = ap (λ b. cond b (x ∷ filter p xs) (filter p xs)) (h x) ∙ ap (λ l. cond (q x) (x ∷ l) l) (filter_tests p q xs h)

tied : (a b : ℕ) → (not (is_lt (nat_cmp a b)) && not (is_lt (nat_cmp b a))) ≡ (b == a)
tied a b = grind (arith, nat_tests)

-- a stable sort by member keeps the memberships of each in their order
pub each_kept : (t : Tables) (old rows : List MemberRow) → old ≡ t.members → IsStableByKey (λ (x : MemberRow). x.member) nat_cmp old rows → AreMemberships t rows
each_kept t old rows e stable = record {
  each = λ r.
      let x : MemberRow = record { group = 0; member = r; from = 0; to = 0 } in
      let test = λ (y : MemberRow). tied r y.member in
      sym (filter_tests (ties (λ (a : MemberRow) (b : MemberRow). is_lt (nat_cmp a.member b.member)) x) (λ y. y.member == r) rows test)
      ∙ stable x ∙ filter_tests (ties (λ (a : MemberRow) (b : MemberRow). is_lt (nat_cmp a.member b.member)) x) (λ y. y.member == r) old test
      ∙ ap (of_member r) e;
}
