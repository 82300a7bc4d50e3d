-- The first place of a list at which a test passes.
use Rattle.std.proofs.Common.{◌≡◌, ℕ, ◌+◌, Bool, true, false, List, [], ◌∷◌, length, Option, Some, None, cond, not, suc, nat_lt, is_none, ap, refl, sym, ◌∙◌, arith}
use Rattle.std.proofs.lemmas.Bool.{false≢true}
use Rattle.std.proofs.lemmas.Bool.Decides.{nat_tests}
use Rattle.std.specs.Prelude.{position, option_map}
use Rattle.std.specs.List.{position_or_len}

-- the first place of a list with one more element
zero-less : (n : ℕ) → nat_lt 0 (suc n) ≡ true
zero-less n = grind (arith, nat_tests)

pub position_true : {A : Type 0} (p : A → Bool) (x : A) (xs : List A) → p x ≡ true → position p (x ∷ xs) ≡ Some 0
position_true p x xs e =
    ap (λ b. cond (nat_lt (cond (not b) (1 + position_or_len p xs) 0) (suc (length xs))) (Some (cond (not b) (1 + position_or_len p xs) 0)) None) e
    ∙ ap (λ b. cond b (Some 0) None) (zero-less (length xs))

position_step : (a b : ℕ) → cond (nat_lt (1 + a) (suc b)) (Some (1 + a)) None ≡ option_map (λ k. k + 1) (cond (nat_lt a b) (Some a) None)
position_step a b = step (nat_lt a b) refl
  where
    step : (c : Bool) → nat_lt a b ≡ c → cond (nat_lt (1 + a) (suc b)) (Some (1 + a)) None ≡ option_map (λ k. k + 1) (cond c (Some a) None)
    step true e =
        let f : nat_lt (1 + a) (suc b) ≡ true = grind (arith, nat_tests) in
        ap (λ c. cond c (Some (1 + a)) None) f ∙ ap Some (omega arith)
    step false e =
        let f : nat_lt (1 + a) (suc b) ≡ false = grind (arith, nat_tests) in
        ap (λ c. cond c (Some (1 + a)) None) f

pub position_false : {A : Type 0} (p : A → Bool) (x : A) (xs : List A) → p x ≡ false → position p (x ∷ xs) ≡ option_map (λ n. n + 1) (position p xs)
position_false p x xs e = ap (λ b. cond (nat_lt (cond (not b) (1 + position_or_len p xs) 0) (suc (length xs))) (Some (cond (not b) (1 + position_or_len p xs) 0)) None) e ∙ position_step (position_or_len p xs) (length xs)

no_later : (o : Option ℕ) → option_map (λ n. n + 1) o ≡ None → o ≡ None
no_later None e = refl
no_later (Some n) e = absurd (false≢true (ap is_none e))

-- what passes less often is found nowhere else
pub position_none : {A : Type 0} (p q : A → Bool) → ((x : A) → p x ≡ false → q x ≡ false) → (xs : List A) → position p xs ≡ None → position q xs ≡ None
position_none p q h [] e = refl
position_none {A} p q h (x ∷ xs) e = step (p x) refl (position_none p q h xs)
  where
    step : (b : Bool) → p x ≡ b → (position p xs ≡ None → position q xs ≡ None) → position q (x ∷ xs) ≡ None
    step true k r = absurd (false≢true (ap is_none (sym (position_true p x xs k) ∙ e)))
    step false k r = position_false q x xs (h x k) ∙ ap (option_map (λ n. n + 1)) (r (no_later (position p xs) (sym (position_false p x xs k) ∙ e)))
