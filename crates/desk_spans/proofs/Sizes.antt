-- How large signed numbers and their products are, and what 64 bits hold of a sum.
use Rattle.std.proofs.Common.{◌≡◌, ℕ, ◌*◌, ◌^◌, ◌≤◌, ℤ, pos, ◌+ℤ◌, ◌*ℤ◌, arith, sym, ◌∙◌, w64, FitsSigned}
use Rattle.std.specs.Int.{int_wrap, int_wrapping_add}
use Rattle.std.specs.Int.RustNames.{unsigned_abs}
use Rattle.std.proofs.lemmas.Int.{ints, unsigned_abs-mul, wrapping_add_is, int_wrap_fits, int_wrap-add_left, int_wrap-add_right}

pub unsigned_abs_fits : (a : ℤ) → FitsSigned w64 a → unsigned_abs a ≤ 2 ^ 63
unsigned_abs_fits a h = omega (arith, ints)

pub unsigned_abs-times : (n : ℕ) (v : ℤ) → FitsSigned w64 v → unsigned_abs (pos n *ℤ v) ≤ n * 2 ^ 63
unsigned_abs-times n v h =
    let small = unsigned_abs_fits v h in
    rw (unsigned_abs-mul (pos n) v) (grind arith)

-- a value that is laid as the sum of two others
pub laid_sum : (v a b s t : ℤ) → FitsSigned w64 s → FitsSigned w64 t → a ≡ s → b ≡ t → v ≡ int_wrapping_add w64 s t → v ≡ int_wrap w64 (a +ℤ b)
laid_sum v a b s t f g left right laid = rw (left, right) (laid ∙ wrapping_add_is w64 s t f g)

-- what 64 bits hold of two sums makes up what they hold of the whole
pub wrapped_sums : (a b : ℤ) → int_wrap w64 (int_wrap w64 a +ℤ int_wrap w64 b) ≡ int_wrap w64 (a +ℤ b)
wrapped_sums a b = int_wrap-add_left w64 a (int_wrap w64 b) ∙ int_wrap-add_right w64 a b

-- and so for one value that fits
pub wrapped_value : (z : ℤ) → FitsSigned w64 z → z ≡ int_wrap w64 (pos 0 +ℤ z)
wrapped_value z fits =
    let alone : pos 0 +ℤ z ≡ z = omega (arith, ints) in
    rw alone (sym (int_wrap_fits w64 z fits))
