-- Bookings that are taken off a view, the last first.
use Rattle.std.proofs.Common.{◌≡◌, ℕ, ◌+◌, ◌-◌, List, length, take, ap, ◌∙◌, arith}
use Rattle.std.proofs.lemmas.List.{length-take}
use Rattle.std.proofs.Math.Seq.{take-take}

-- one element less of a front of a list
pub one_less : {A : Type 0} (xs ys : List A) (i : ℕ) → ys ≡ take (length xs - i) xs → take (length ys - 1) ys ≡ take (length xs - (i + 1)) xs
one_less xs ys i e =
    ap (λ l. take (length l - 1) l) e
    ∙ take-take (length (take (length xs - i) xs) - 1) (length xs - i) xs (omega (arith, length-take (length xs - i) xs))
    ∙ ap (λ n. take n xs) (omega (arith, length-take (length xs - i) xs))
