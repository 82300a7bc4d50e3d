-- Rows that rise by one number.
use Rattle.std.proofs.Common.{◌≡◌, ℕ, zero, suc, ◌<◌, ◌≤◌, Bool, cond, not, ◌&&◌, ◌==◌, List, [], ◌∷◌, ◌++◌, length, get_or, map, take, inl, inr, ◌⊎◌, refl, sym, ap, ◌∙◌, subst, arith}
use Rattle.std.proofs.lemmas.Bool.{cases_lt, false≢true}
use Rattle.std.proofs.lemmas.Bool.Decides.{nat_tests}
use Rattle.std.specs.Prelude.{filter}
use Rattle.std.specs.Ordering.{nat_cmp, is_lt, ordering_then}
use Rattle.std.specs.List.{AllByRecursion}
use Rattle.std.specs.List.Sorted.{IsNonDecreasingBy, IsStrictlySortedBy, ties}
use Rattle.std.specs.declared.cmp.Ordering.{Ordering}
use Rattle.std.specs.declared.cmp.Ordering.TheVariants.{Less, Equal, Greater}
use Rattle.desk_base.specs.declared.rows.tables.Tables.{Tables}
use Rattle.desk_base.specs.declared.rows.groups.GroupRow.{GroupRow}
use Rattle.desk_base.specs.declared.rows.resources.ResourceRow.{ResourceRow}
use Rattle.desk_base.specs.declared.rows.tables.Table.TheVariants.{Group as GroupTable}
use Rattle.desk_base.specs.declared.rows.tables.AnyRow.TheVariants.{Group}
use Rattle.desk_base.specs.rows.Keys.{key_cmp}
use Rattle.desk_base.specs.rows.Rows.{key_of}
use Rattle.desk_base.specs.rules.Sound.{AreWellFormed}
use Rattle.desk_base.specs.rows.Lookups.{KeysRise}
use Rattle.desk_base.proofs.lists.Members.{all_from, all_at, in-map, in_mapped}
use Rattle.desk_base.proofs.tables.Sounds.{keys_in_order, resources_in_order}
use Rattle.desk_base.specs.rows.Ranges.{Rise, IsUnder, owns}

-- ---- orders

under_from : (a b : ℕ) → a ≤ b → (a < b) ⊎ ((a ≡ b) × (0 ≤ 0))
under_from a b h = elim (cases_lt a b) [ inl l ↦ inl l | inr l ↦ inr (omega arith, omega arith) ]

later_under : {A : Type 0} (n : A → ℕ) (x : A) (ys : List A) → ((j : ℕ) (d : A) → j < length ys → n x ≤ n (get_or ys j d)) → AllByRecursion (IsUnder n (λ _. 0) x) ys
later_under n x [] h = tt
later_under n x (y ∷ ys) h = (under_from (n x) (n y) (h 0 y (omega arith)), later_under n x ys (λ j d l. h (suc j) d (omega arith)))

pub rise_sorted : {A : Type 0} (n : A → ℕ) (xs : List A) → IsNonDecreasingBy n xs → Rise n (λ _. 0) xs
unfolding Rise
rise_sorted n [] h = tt
rise_sorted n (x ∷ xs) h = (
  later_under n x xs (λ j d l. h 0 (suc j) d (omega arith) (omega arith)),
  rise_sorted n xs (λ i j d l b. h (suc i) (suc j) d (omega arith) (omega arith)),
)

less_is : (a b : ℕ) → nat_cmp a b ≡ Less → a < b
less_is a b e = grind (arith, nat_tests)

-- rows whose numbers rise strictly
pub rise_strict : {A : Type 0} (n : A → ℕ) (xs : List A) → IsStrictlySortedBy nat_cmp (map n xs) → Rise n (λ _. 0) xs
unfolding Rise IsStrictlySortedBy
rise_strict n [] h = tt
rise_strict {A} n (x ∷ xs) h = (under xs h.0, rise_strict n xs h.1)
  where
    under : (ys : List A) → AllByRecursion (λ k. nat_cmp (n x) k ≡ Less) (map n ys) → AllByRecursion (IsUnder n (λ _. 0) x) ys
    under [] h = tt
    under (y ∷ ys) h = (inl (less_is (n x) (n y) h.0), under ys h.1)

then_equal : (r : Ordering) → ordering_then r Equal ≡ Less → r ≡ Less
then_equal Less e = refl
then_equal Equal e = absurd (false≢true (ap is_lt e))
then_equal Greater e = absurd (false≢true (ap is_lt e))

ids_rise : (xs : List GroupRow) → IsStrictlySortedBy key_cmp (map key_of (map Group xs)) → IsStrictlySortedBy nat_cmp (map (λ (x : GroupRow). x.id) xs)
unfolding IsStrictlySortedBy
ids_rise [] s = tt
ids_rise (x ∷ xs) s = (
  all_from (λ n. nat_cmp x.id n ≡ Less) (map (λ (y : GroupRow). y.id) xs) (λ n i.
      let e = in-map (λ (y : GroupRow). y.id) n xs i in
      let l = all_at (λ k. key_cmp (key_of (Group x)) k ≡ Less) (map key_of (map Group xs)) (key_of (Group e.0)) s.0 (in_mapped key_of (Group e.0) (map Group xs) (in_mapped Group e.0 xs e.1)) in
      subst (λ m. nat_cmp x.id m ≡ Less) (sym e.2) (then_equal (nat_cmp x.id e.0.id) l)),
  ids_rise xs s.1,
)

pub groups_climb : (t : Tables) → AreWellFormed t → IsStrictlySortedBy nat_cmp (map (λ (x : GroupRow). x.id) t.groups)
groups_climb t w = ids_rise t.groups (keys_in_order t GroupTable w.order)

pub resources_climb : (t : Tables) → AreWellFormed t → IsStrictlySortedBy nat_cmp (map (λ (x : ResourceRow). x.id) t.resources)
resources_climb t w = resources_in_order t w.order

-- ---- rows of one number

tie_is : (a b : ℕ) → (not (is_lt (nat_cmp a b)) && not (is_lt (nat_cmp b a))) ≡ (b == a)
tie_is a b = grind (arith, nat_tests)

pub filter_same : {A : Type 0} (p q : A → Bool) (xs : List A) → ((x : A) → p x ≡ q x) → filter p xs ≡ filter q xs
filter_same p q [] h = refl
filter_same p q (x ∷ xs) h = let r = filter_same p q xs h in λ i. cond (h x i) (x ∷ r i) (r i)

-- a stable sort keeps the rows of each number as they were
pub owned_stay : {A : Type 0} (n : A → ℕ) (d : A) (xs ys : List A) → filter (ties (λ x y. is_lt (nat_cmp (n x) (n y))) d) ys ≡ filter (ties (λ x y. is_lt (nat_cmp (n x) (n y))) d) xs → filter (owns n (n d)) ys ≡ filter (owns n (n d)) xs
owned_stay n d xs ys h =
    sym (filter_same (ties (λ x y. is_lt (nat_cmp (n x) (n y))) d) (owns n (n d)) ys (λ x. tie_is (n d) (n x)))
    ∙ h
    ∙ filter_same (ties (λ x y. is_lt (nat_cmp (n x) (n y))) d) (owns n (n d)) xs (λ x. tie_is (n d) (n x))

-- ---- lists

pub all_get : {A : Type 0} (P : A → Type 0) (xs : List A) (i : ℕ) (d : A) → AllByRecursion P xs → i < length xs → P (get_or xs i d)
all_get P [] i d a l = absurd (omega arith)
all_get P (x ∷ xs) zero d a l = a.0
all_get P (x ∷ xs) (suc i) d a l = all_get P xs i d a.1 (omega arith)

pub all_more : {A : Type 0} (P : A → Type 0) (xs : List A) (x : A) → AllByRecursion P xs → P x → AllByRecursion P (xs ++ x ∷ [])
all_more P [] x a h = (h, tt)
all_more P (y ∷ ys) x a h = (a.0, all_more P ys x a.1 h)

pub map_more : {A B : Type 0} (f : A → B) (xs : List A) (x : A) → map f (xs ++ x ∷ []) ≡ map f xs ++ f x ∷ []
map_more f [] x = refl
map_more f (y ∷ ys) x = ap (λ l. f y ∷ l) (map_more f ys x)

pub map_same : {A B : Type 0} (f g : A → B) (xs : List A) → ((x : A) → f x ≡ g x) → map f xs ≡ map g xs
map_same f g [] h = refl
map_same f g (x ∷ xs) h = let r = map_same f g xs h in λ i. h x i ∷ r i

pub map_map : {A B C : Type 0} (g : B → C) (f : A → B) (xs : List A) → map g (map f xs) ≡ map (λ x. g (f x)) xs
map_map g f [] = refl
map_map g f (x ∷ xs) = ap (λ l. g (f x) ∷ l) (map_map g f xs)

pub map_itself : {A : Type 0} (xs : List A) → map (λ x. x) xs ≡ xs
map_itself [] = refl
map_itself (x ∷ xs) = ap (λ l. x ∷ l) (map_itself xs)

pub take_every : {A : Type 0} (xs : List A) (n : ℕ) → length xs ≤ n → take n xs ≡ xs
take_every [] zero h = refl
take_every [] (suc n) h = refl
take_every (x ∷ xs) zero h = absurd (omega arith)
take_every (x ∷ xs) (suc n) h = ap (λ l. x ∷ l) (take_every xs n (omega arith))

pub keys_climb : (t : Tables) → AreWellFormed t → KeysRise t
keys_climb t w table = keys_in_order t table w.order
