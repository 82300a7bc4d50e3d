-- The first row that passes a test, by its key, and the row at a place.
use Rattle.std.proofs.Common.{◌≡◌, ℕ, zero, suc, ◌≤◌, Bool, true, false, cond, not, List, [], ◌∷◌, ◌++◌, length, Option, Some, None, inl, inr, map, refl, sym, ap, ◌∙◌, arith, is_none}
use Rattle.std.proofs.lemmas.Bool.{false≢true}
use Rattle.std.proofs.lemmas.Option.{slice_get-map}
use Rattle.std.specs.Prelude.{find, option_map}
use Rattle.std.specs.List.{slice_get}
use Rattle.std.specs.List.Sorted.{IsStrictlySortedBy}
use Rattle.std.specs.declared.cmp.Ordering.TheVariants.{Less}
use Rattle.desk_base.specs.declared.rows.tables.Key.{Key}
use Rattle.desk_base.specs.rows.Keys.{key_cmp}
use Rattle.desk_base.proofs.lists.Members.{IsIn, all_at, in_mapped}
use Rattle.desk_base.proofs.lists.Orders.{not_itself, not_both}
use Rattle.desk_base.proofs.tables.Sounds.{key_total}

-- ---- keys of rows

pub found_key : {A B C : Type 0} (key : B → C) (f : A → B) (p : B → Bool) (xs : List A) → option_map (λ x. key (f x)) (find (λ x. p (f x)) xs) ≡ option_map key (find p (map f xs))
found_key key f p [] = refl
found_key key f p (x ∷ xs) = step (p (f x)) (found_key key f p xs)
  where
    step : (b : Bool) → option_map (λ x. key (f x)) (find (λ x. p (f x)) xs) ≡ option_map key (find p (map f xs)) → option_map (λ x. key (f x)) (cond b (Some x) (find (λ x. p (f x)) xs)) ≡ option_map key (cond b (Some (f x)) (find p (map f xs)))
    step true e = refl
    step false e = e

map_twice : {A B C : Type 0} (key : B → C) (f : A → B) (o : Option A) → option_map (λ x. key (f x)) o ≡ option_map key (option_map f o)
map_twice key f None = refl
map_twice key f (Some x) = refl

pub got_key : {A B C : Type 0} (key : B → C) (f : A → B) (xs : List A) (n : ℕ) → option_map (λ x. key (f x)) (slice_get xs n) ≡ slice_get (map key (map f xs)) n
got_key key f xs n = map_twice key f (slice_get xs n) ∙ ap (option_map key) (sym (slice_get-map f xs n)) ∙ sym (slice_get-map key (map f xs) n)

-- ---- the element at a place

-- the list is cut at an element, behind so many others
pub record IsCutAt {A : Type 0} (xs : List A) (n : ℕ) (x : A) : Type 0 where
  pub before : List A
  pub after : List A
  pub cut : xs ≡ before ++ x ∷ after
  pub place : length before ≡ n

pub got_at : {A : Type 0} (before after : List A) (x : A) → slice_get (before ++ x ∷ after) (length before) ≡ Some x
got_at [] after x = refl
got_at (y ∷ before) after x = got_at before after x

pub cut_got : {A : Type 0} (xs : List A) (n : ℕ) (x : A) → slice_get xs n ≡ Some x → IsCutAt xs n x
cut_got [] zero x e = cc
cut_got [] (suc n) x e = cc
cut_got (y ∷ ys) zero x e = record { before = []; after = ys; cut = ap (λ z. z ∷ ys) (same e); place = refl }
  where
    same : Some y ≡ Some x → y ≡ x
    same f = cc
cut_got (y ∷ ys) (suc n) x e = let c = cut_got ys n x e in record { before = y ∷ c.before; after = c.after; cut = ap (λ l. y ∷ l) c.cut; place = ap suc c.place }

pub none_got : {A : Type 0} (xs : List A) (n : ℕ) → slice_get xs n ≡ None → length xs ≤ n
none_got [] n e = omega arith
none_got (y ∷ ys) zero e = cc
none_got (y ∷ ys) (suc n) e = omega (arith, none_got ys n e)

-- ---- the first row that fails a test

module _ {A : Type 0} (key : A → Key) (p : A → Bool) where
  pub none_fails : (xs : List A) → option_map key (find (λ x. not (p x)) xs) ≡ None → (x : A) → IsIn x xs → p x ≡ true
  none_fails [] e x i = absurd i
  none_fails (y ∷ ys) e x i = step (p y) refl e i (λ g j. none_fails ys g x j)
    where
      step : (b : Bool) → p y ≡ b → option_map key (cond (not b) (Some y) (find (λ x. not (p x)) ys)) ≡ None → IsIn x (y ∷ ys) → (option_map key (find (λ x. not (p x)) ys) ≡ None → IsIn x ys → p x ≡ true) → p x ≡ true
      step true f g (inl h) more = ap p h ∙ f
      step true f g (inr j) more = more g j
      step false f g j more = absurd (false≢true (ap is_none g))

  -- an element of this key fails the test, and each of a lesser key passes it
  pub record FailsFirst (xs : List A) (k : Key) : Type 0 where
    pub row : A
    pub there : IsIn row xs
    pub key_is : key row ≡ k
    pub fails : p row ≡ false
    pub before : (x : A) → IsIn x xs → key_cmp (key x) k ≡ Less → p x ≡ true

  pub first_fails : (xs : List A) (k : Key) → IsStrictlySortedBy key_cmp (map key xs) → option_map key (find (λ x. not (p x)) xs) ≡ Some k → FailsFirst xs k
  unfolding IsStrictlySortedBy
  first_fails [] k s e = cc
  first_fails (y ∷ ys) k s e = step (p y) refl e (λ g. first_fails ys k s.1 g)
    where
      above : (x : A) → IsIn x ys → key_cmp (key y) (key x) ≡ Less
      above x i = all_at (λ z. key_cmp (key y) z ≡ Less) (map key ys) (key x) s.0 (in_mapped key x ys i)

      same : Some (key y) ≡ Some k → key y ≡ k
      same g = cc

      step : (b : Bool) → p y ≡ b → option_map key (cond (not b) (Some y) (find (λ x. not (p x)) ys)) ≡ Some k → (option_map key (find (λ x. not (p x)) ys) ≡ Some k → FailsFirst ys k) → FailsFirst (y ∷ ys) k
      step true f g more =
          let r = more g in
          record { row = r.row; there = inr r.there; key_is = r.key_is; fails = r.fails; before = λ x i l. elim i [ inl h ↦ ap p h ∙ f | inr j ↦ r.before x j l ] }
      step false f g more = record {
        row = y;
        there = inl refl;
        key_is = same g;
        fails = f;
        before = λ x i l.
            let m : key_cmp (key x) (key y) ≡ Less = ap (key_cmp (key x)) (same g) ∙ l in
            elim i [ inl h ↦ absurd (not_itself key_cmp key_total (key y) (ap (λ z. key_cmp (key z) (key y)) (sym h) ∙ m)) | inr j ↦ absurd (not_both key_cmp key_total (key x) (key y) m (above x j)) ];
      }
