-- The steps of a page, where the leaves, the resources and the positions that it passes are counted.
use Rattle.std.proofs.Common.{◌≡◌, ℕ, ◌+◌, ◌*◌, ◌≤◌, subst}

pub counted_steps : (old new p l r p' l' r' : ℕ) → new ≤ old + (p + l + 2) * (r + 1) → r ≡ r' → l ≡ l' → p ≡ p' → new ≤ old + (p' + l' + 2) * (r' + 1)
counted_steps old new p l r p' l' r' h e f g =
    subst (λ z. new ≤ old + (z + l' + 2) * (r' + 1)) g (subst (λ z. new ≤ old + (p + z + 2) * (r' + 1)) f (subst (λ z. new ≤ old + (p + l + 2) * (z + 1)) e h))
