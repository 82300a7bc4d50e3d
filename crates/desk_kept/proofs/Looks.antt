-- Lists whose items are looked at one after another.
use Rattle.std.proofs.Common.{◌≡◌, ℕ, ◌+◌, ◌<◌, ◌≤◌, List, length, take, get_or, All, subst}
use Rattle.std.proofs.lemmas.List.{take_all}
use Rattle.std.proofs.lemmas.List.Elements.{All-more}

module _ {X : Type 0} (P : X → Type 0) (xs seen : List X) (same : seen ≡ xs) (i : ℕ) where
  pub one_more : (x : X) → i < length seen → x ≡ get_or seen i x → All P (take i xs) → P x → All P (take (i + 1) xs)
  one_more x within is so_far here = All-more P xs i x (subst (λ l. i < length l) same within) so_far (subst P (subst (λ l. x ≡ get_or l i x) same is) here)

  pub all_seen : length seen ≤ i → All P (take i xs) → All P xs
  all_seen past so_far = subst (All P) (take_all i xs (subst (λ l. length l ≤ i) same past)) so_far
