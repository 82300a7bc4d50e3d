-- What is found among rows that pass a test.
use Rattle.std.proofs.Common.{◌≡◌, Bool, ◌&&◌, List, sym}
use Rattle.std.specs.Prelude.{filter, find}
use Rattle.desk_base.proofs.lists.Bounds.{find_within}

pub find_filter : {A : Type 0} (p c : A → Bool) (xs : List A) → find c (filter p xs) ≡ find (λ x. p x && c x) xs
find_filter p c xs = sym (find_within p c xs)
