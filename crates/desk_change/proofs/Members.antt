-- Memberships that name a resource: the first is the lesser of the first of a crew or pool and the first of a member.
use Rattle.std.proofs.Common.{◌≡◌, ℕ, Bool, true, false, cond, ◌||◌, ◌==◌, List, [], ◌∷◌, map, Option, Some, None, inl, inr, refl, sym, ap, ◌∙◌, subst}
use Rattle.std.proofs.lemmas.Bool.{false≢true, or_cases}
use Rattle.std.proofs.lemmas.Option.{none-some}
use Rattle.std.proofs.Math.Bool.{or-true}
use Rattle.std.specs.Prelude.{filter, find, option_map}
use Rattle.std.specs.List.Sorted.{IsStrictlySortedBy}
use Rattle.std.specs.Ordering.{is_lt}
use Rattle.std.specs.declared.cmp.Ordering.TheVariants.{Less}
use Rattle.desk_base.specs.declared.rows.tables.Tables.{Tables}
use Rattle.desk_base.specs.declared.rows.tables.Key.{Key}
use Rattle.desk_base.specs.declared.rows.tables.AnyRow.{AnyRow}
use Rattle.desk_base.specs.declared.rows.resources.MemberRow.{MemberRow}
use Rattle.desk_base.specs.declared.rows.tables.Table.TheVariants.{Member as MemberTable, Resource as ResourceTable}
use Rattle.desk_base.specs.declared.rows.tables.AnyRow.TheVariants.{Member}
use Rattle.desk_base.specs.rows.Keys.{key_cmp, id_key}
use Rattle.desk_base.specs.rows.Lookups.{keys_by}
use Rattle.desk_base.specs.rows.Rows.{key_of}
use Rattle.desk_base.specs.asked.Refusing.{cites, is_key}
use Rattle.desk_base.specs.rules.Sound.{IsSound}
use Rattle.desk_base.proofs.lists.Members.{all_at, in-filter, in_mapped, in-map}
use Rattle.desk_base.proofs.lists.Orders.{not_both}
use Rattle.desk_base.proofs.lists.Tests.{find_cases}
use Rattle.desk_base.proofs.tables.Sounds.{key_total, keys_rise}
use Rattle.desk_base.proofs.tables.WithOne.{is_less}
use Rattle.desk_change.specs.Citing.{citing_in, lesser}
use Rattle.desk_change.proofs.Naming.{numbered}

-- ---- lesser keys

lesser_same : (j : Key) → lesser (Some j) (Some j) ≡ Some j
lesser_same j = step (is_lt (key_cmp j j))
  where
    step : (b : Bool) → cond b (Some j) (Some j) ≡ Some j
    step true = refl
    step false = refl

-- where the second key, if there is one, is above the first, the first is the lesser
before_second : (j : Key) (o : Option Key) → ((k : Key) → o ≡ Some k → key_cmp j k ≡ Less) → Some j ≡ lesser (Some j) o
before_second j None h = refl
before_second j (Some k) h = step (is_lt (key_cmp k j)) refl
  where
    step : (b : Bool) → is_lt (key_cmp k j) ≡ b → Some j ≡ cond b (Some k) (Some j)
    step true e = absurd (not_both key_cmp key_total j k (h k refl) (is_less (key_cmp k j) e))
    step false e = refl

before_first : (o : Option Key) (k : Key) → ((j : Key) → o ≡ Some j → key_cmp k j ≡ Less) → Some k ≡ lesser o (Some k)
before_first None k h = refl
before_first (Some j) k h = ap (λ r. cond (is_lt r) (Some k) (Some j)) (sym (h j refl))

-- ---- rows that rise by key

module _ {R : Type 0} (any : R → AnyRow) (c : AnyRow → Bool) (p q : R → Bool) (some : (x : R) → c (any x) ≡ true → (p x || q x) ≡ true) where
  abbrev found : List R → Option Key
  found xs = option_map key_of (find c (map any xs))

  some_key : (o : Option AnyRow) (row : AnyRow) (k : Key) → o ≡ Some row → option_map key_of o ≡ Some k → key_of row ≡ k
  some_key o row k e f = key_is (key_of row) k (sym (ap (option_map key_of) e) ∙ f)
    where
      key_is : (a b : Key) → Some a ≡ Some b → a ≡ b
      key_is a b g = cc

  none_key : (o : Option AnyRow) (k : Key) → o ≡ None → option_map key_of o ≡ Some k → ⊥
  none_key o k e f = none-some k (sym (ap (option_map key_of) e) ∙ f)

  -- what is found among some of the rows behind one is above it
  above : (x : R) (xs : List R) (r : R → Bool) (k : Key) → IsStrictlySortedBy key_cmp (keys_by any (x ∷ xs)) → found (filter r xs) ≡ Some k → key_cmp (key_of (any x)) k ≡ Less
  unfolding IsStrictlySortedBy
  above x xs r k s e = elim (find_cases c (map any (filter r xs))) [
    | inl n ↦ absurd (none_key (find c (map any (filter r xs))) k n e)
    | inr (row, i, h, f) ↦
        let y = in-map any row (filter r xs) i in
        let j = (in-filter r y.0 xs y.1).0 in
        let l : key_cmp (key_of (any x)) (key_of (any y.0)) ≡ Less = all_at (λ z. key_cmp (key_of (any x)) z ≡ Less) (keys_by any xs) (key_of (any y.0)) s.0 (in_mapped key_of (any y.0) (map any xs) (in_mapped any y.0 xs j)) in
        subst (λ z. key_cmp (key_of (any x)) z ≡ Less) (ap key_of (sym y.2) ∙ some_key (find c (map any (filter r xs))) row k f e) l
  ]

  -- a row that does not pass is not found, and one that passes is found before all behind it
  passed : (x : R) → c (any x) ≡ false → (d : Bool) (ys : List R) → found (cond d (x ∷ ys) ys) ≡ found ys
  passed x h true ys = ap (λ b. option_map key_of (cond b (Some (any x)) (find c (map any ys)))) h
  passed x h false ys = refl

  met : (x : R) → c (any x) ≡ true → (ys : List R) → found (x ∷ ys) ≡ Some (key_of (any x))
  met x h ys = ap (λ b. option_map key_of (cond b (Some (any x)) (find c (map any ys)))) h

  -- the first of all rows is the lesser of the first that pass the one test and the first that pass the other
  pub first_of_two : (xs : List R) → IsStrictlySortedBy key_cmp (keys_by any xs) → found xs ≡ lesser (found (filter p xs)) (found (filter q xs))
  unfolding IsStrictlySortedBy
  first_of_two [] s = refl
  first_of_two (x ∷ xs) s = step (c (any x)) refl (first_of_two xs s.1)
    where
      both : c (any x) ≡ true → (d e : Bool) → p x ≡ d → q x ≡ e → Some (key_of (any x)) ≡ lesser (found (cond d (x ∷ filter p xs) (filter p xs))) (found (cond e (x ∷ filter q xs) (filter q xs)))
      both h true true f g =
          sym (lesser_same (key_of (any x))) ∙ ap (λ o. lesser o (Some (key_of (any x)))) (sym (met x h (filter p xs))) ∙ ap (lesser (found (x ∷ filter p xs))) (sym (met x h (filter q xs)))
      both h true false f g =
          before_second (key_of (any x)) (found (filter q xs)) (λ k e. above x xs q k s e) ∙ ap (λ o. lesser o (found (filter q xs))) (sym (met x h (filter p xs)))
      both h false true f g =
          before_first (found (filter p xs)) (key_of (any x)) (λ j e. above x xs p j s e) ∙ ap (lesser (found (filter p xs))) (sym (met x h (filter q xs)))
      both h false false f g = absurd (false≢true (sym (ap (λ u. u || q x) f ∙ g) ∙ some x h))

      step : (b : Bool) → c (any x) ≡ b → found xs ≡ lesser (found (filter p xs)) (found (filter q xs)) → found (x ∷ xs) ≡ lesser (found (cond (p x) (x ∷ filter p xs) (filter p xs))) (found (cond (q x) (x ∷ filter q xs) (filter q xs)))
      step true h g = met x h xs ∙ both h (p x) (q x) refl refl
      step false h g =
          passed x h true xs ∙ g ∙ ap (λ o. lesser o (found (filter q xs))) (sym (passed x h (p x) (filter p xs)))
          ∙ ap (lesser (found (cond (p x) (x ∷ filter p xs) (filter p xs)))) (sym (passed x h (q x) (filter q xs)))

-- ---- memberships

either_number : (k : Key) (g m : ℕ) → (is_key k (id_key ResourceTable g) || (is_key k (id_key ResourceTable m) || false)) ≡ true → ((g == k.a) || (m == k.a)) ≡ true
either_number k g m e = elim (or_cases (is_key k (id_key ResourceTable g)) (is_key k (id_key ResourceTable m) || false) e) [
  | inl f ↦ ap (λ u. u || (m == k.a)) (numbered k ResourceTable g f)
  | inr f ↦ elim (or_cases (is_key k (id_key ResourceTable m)) false f) [
    | inl h ↦ ap (λ u. (g == k.a) || u) (numbered k ResourceTable m h) ∙ or-true (g == k.a)
    | inr h ↦ absurd (false≢true h)
  ]
]

pub of_members : (t : Tables) (k : Key) → IsSound t
    → lesser (option_map key_of (find (cites k) (map Member (filter (λ (x : MemberRow). x.group == k.a) t.members)))) (option_map key_of (find (cites k) (map Member (filter (λ (x : MemberRow). x.member == k.a) t.members)))) ≡ citing_in t k MemberTable
of_members t k s =
    sym (first_of_two Member (cites k) (λ (x : MemberRow). x.group == k.a) (λ (x : MemberRow). x.member == k.a) (λ x e. either_number k x.group x.member e) t.members (keys_rise t MemberTable s))
