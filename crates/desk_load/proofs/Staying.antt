-- What stays for some minutes: numbers together, in fewer minutes, and while something holds.
use Rattle.std.proofs.Common.{◌≡◌, ℕ, ◌+◌, ◌<◌, ◌≤◌, Bool, true, false, cond, ◌&&◌, ◌||◌, nat_le, nat_lt, min, List, [], ◌∷◌, length, take, ◌*◌, ◌^◌, refl, sym, ap, ◌∙◌, arith}
use Rattle.std.proofs.lemmas.Bool.Decides.{nat_tests}
use Rattle.std.proofs.lemmas.List.{take_all}
use Rattle.std.proofs.lemmas.List.Sums.{sum_by_more}
use Rattle.std.specs.List.{AllByRecursion, list_any}
use Rattle.std.specs.Prelude.{sum_by, slice_index_or}
use Rattle.desk_base.specs.rules.Limits.{end_of_minutes}
use Rattle.desk_base.specs.meaning.Time.{covers}
use Rattle.desk_base.specs.rows.Ranges.{nearer, holds, AreStill}
use Rattle.desk_base.proofs.lists.Bounds.{nearer_after, nearer_below}
use Rattle.desk_spans.specs.Minutes.{EachMinute}
use Rattle.desk_load.specs.Steady.{Stays}

pub stays_always : {A : Type 0} (f : ℕ → A) (m : ℕ) (a : A) → m < end_of_minutes → ((k : ℕ) → f k ≡ a) → Stays f m a end_of_minutes
stays_always f m a h e = record { later = h; inside = omega arith; value_at = λ k l u. e k }

-- in fewer minutes, and of a function that is the same in them
pub stays_as : {A : Type 0} (f g : ℕ → A) (m : ℕ) (a b : A) (u v : ℕ) → Stays f m a u → m < v → v ≤ u → a ≡ b → EachMinute m v (λ k. g k ≡ f k) → Stays g m b v
stays_as f g m a b u v s h l e same = record {
  later = h;
  inside = omega (arith, s.inside, l);
  value_at = λ k lo hi. same k lo hi ∙ s.value_at k lo (omega (arith, hi, l)) ∙ e;
}

pub stays_sum : (f g : ℕ → ℕ) (m a b u v : ℕ) → Stays f m a u → Stays g m b v → Stays (λ k. f k + g k) m (a + b) (min u v)
stays_sum f g m a b u v s r = record {
  later = omega (arith, s.later, r.later);
  inside = omega (arith, s.inside);
  value_at = λ k lo hi. let x = s.value_at k lo (omega (arith, hi)) in let y = r.value_at k lo (omega (arith, hi)) in omega (arith, x, y);
}

-- ---- sums over a list, an element more at a time

pub sum_more : {A : Type 0} (f : A → ℕ → ℕ) (m a b u v i : ℕ) (xs : List A) (x : A) → i < length xs → x ≡ slice_index_or xs i x → Stays (λ k. sum_by (λ y. f y k) (take i xs)) m a u → Stays (f x) m b v → Stays (λ k. sum_by (λ y. f y k) (take (i + 1) xs)) m (a + b) (min u v)
sum_more f m a b u v i xs x h e s r =
    stays_as _ (λ k. sum_by (λ y. f y k) (take (i + 1) xs)) m _ _ (min u v) (min u v) (stays_sum (λ k. sum_by (λ y. f y k) (take i xs)) (f x) m a b u v s r) (omega (arith, s.later, r.later)) (omega arith) refl
    (λ k lo hi. sum_by_more (λ y. f y k) xs i x h ∙ ap (λ z. sum_by (λ y. f y k) (take i xs) + f z k) (sym e))

pub sum_all : {A : Type 0} (f : A → ℕ → ℕ) (m a u i : ℕ) (xs : List A) → length xs ≤ i → Stays (λ k. sum_by (λ y. f y k) (take i xs)) m a u → Stays (λ k. sum_by (λ y. f y k) xs) m a u
sum_all f m a u i xs h s = stays_as _ (λ k. sum_by (λ y. f y k) xs) m a a u u s s.later (omega arith) refl (λ k lo hi. ap (sum_by (λ y. f y k)) (sym (take_all i xs h)))

pub bound_more : (a b i : ℕ) → a ≤ i * 2 ^ 32 → b < 2 ^ 32 → a + b ≤ (i + 1) * 2 ^ 32
bound_more a b i h l = omega (arith, h, l)

-- ---- minutes that a time covers

before_near : (m n k j : ℕ) → m ≤ j → j < nearer m n k → nat_le k j ≡ nat_le k m
before_near m n k j l h = grind (arith, nat_tests)

before_lt : (m n k j : ℕ) → m ≤ j → j < nearer m n k → nat_lt j k ≡ nat_lt m k
before_lt m n k j l h = grind (arith, nat_tests)

pub covers_stays : (from to m n : ℕ) → m < n → n ≤ end_of_minutes → Stays (λ k. covers from to k) m (covers from to m) (nearer m (nearer m n from) to)
covers_stays from to m n h e = record {
  later = nearer_after m (nearer m n from) to (nearer_after m n from h);
  inside = omega (arith, nearer_below m (nearer m n from) to, nearer_below m n from, e);
  value_at = λ k lo hi.
      let a = before_near m n from k lo (omega (arith, hi, nearer_below m (nearer m n from) to)) in
      let b = before_lt m (nearer m n from) to k lo hi in
      ap (λ x. x && nat_lt k to) a ∙ ap (λ x. nat_le from m && x) b;
}

-- ---- while something holds

pub stays_held : (b : ℕ → Bool) (f : ℕ → ℕ) (m a u v : ℕ) → Stays b m true u → Stays f m a v → Stays (λ k. cond (b k) (f k) 0) m a (min v u)
stays_held b f m a u v s r = record {
  later = omega (arith, s.later, r.later);
  inside = omega (arith, s.inside);
  value_at = λ k lo hi. ap (λ x. cond x (f k) 0) (s.value_at k lo (omega (arith, hi))) ∙ r.value_at k lo (omega (arith, hi));
}

pub stays_missed : (b : ℕ → Bool) (f : ℕ → ℕ) (m u : ℕ) → Stays b m false u → Stays (λ k. cond (b k) (f k) 0) m 0 u
stays_missed b f m u s = record { later = s.later; inside = s.inside; value_at = λ k lo hi. ap (λ x. cond x (f k) 0) (s.value_at k lo hi) }

pub stays_where : (b : ℕ → Bool) (e m u : ℕ) (h : Bool) → Stays b m h u → Stays (λ k. cond (b k) e 0) m (cond h e 0) u
stays_where b e m u h s = record { later = s.later; inside = s.inside; value_at = λ k lo hi. ap (λ x. cond x e 0) (s.value_at k lo hi) }

-- ---- rows that are still

any_still : {A : Type 0} (p q : A → Bool) (xs : List A) → AllByRecursion (λ x. p x ≡ q x) xs → list_any p xs ≡ list_any q xs
any_still p q [] h = refl
any_still p q (x ∷ xs) h = ap (λ b. b || list_any p xs) h.0 ∙ ap (λ b. q x || b) (any_still p q xs h.1)

all_and : {A : Type 0} (c p q : A → Bool) (xs : List A) → AllByRecursion (λ x. p x ≡ q x) xs → AllByRecursion (λ x. (c x && p x) ≡ (c x && q x)) xs
all_and c p q [] h = tt
all_and c p q (x ∷ xs) h = (ap (λ b. c x && b) h.0, all_and c p q xs h.1)

-- whether one of the rows of this kind holds the minute stays as long as the rows are still
pub any_stays : {A : Type 0} (c : A → Bool) (from to : A → ℕ) (m n : ℕ) (xs : List A) → m < n → n ≤ end_of_minutes → AreStill from to m n xs → Stays (λ k. list_any (λ x. c x && holds from to k x) xs) m (list_any (λ x. c x && holds from to m x) xs) n
any_stays c from to m n xs h e s = record { later = h; inside = e; value_at = λ k lo hi. any_still _ _ xs (all_and c (holds from to k) (holds from to m) xs (s.at k lo hi)) }
