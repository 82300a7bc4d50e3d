-- Numbers in a row, from the first on.
use Rattle.std.proofs.Common.{◌≡◌, ℕ, ◌+◌, List, [], ◌∷◌, ◌++◌, map, refl, sym}
use Rattle.std.specs.List.{range_with_len}
use Rattle.std.proofs.lemmas.List.{map_push}
use Rattle.std.proofs.lemmas.List.FromFn.{map-range_with_len_more}
use Rattle.serde_json.specs.View.{view}
use Rattle.serde_json.specs.declared.value.Value.{Value}
use Rattle.desk_json.specs.Values.{whole_number}

-- one number more comes at the end
pub next_number : (vs all : List Value) (v : Value) (first count : ℕ) → all ≡ vs ++ v ∷ [] → view v ≡ whole_number (first + count)
    → map view vs ≡ map whole_number (range_with_len first count) → map view all ≡ map whole_number (range_with_len first (count + 1))
next_number vs all v first count e last so_far =
    rw (e, map_push view vs v, so_far, last) (sym (map-range_with_len_more whole_number first count (first + count) refl))
