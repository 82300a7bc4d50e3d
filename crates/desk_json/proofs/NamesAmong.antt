-- Members whose names are looked at one after another.
use Rattle.std.proofs.Common.{◌≡◌, ℕ, List, ◌∷◌, true, false, string_bytes, refl, sym, ◌∙◌}
use Rattle.serde_json.specs.Data.{Members}
use Rattle.serde_json.specs.View.{members_view}
use Rattle.serde_json.proofs.Views.{Entry}
use Rattle.desk_json.specs.Forms.{is_among, members_among}

-- the next name is none of the list
pub other_name : (names : List (List ℕ)) (all : Members) (e : Entry) (es : List Entry) → members_among names all ≡ members_among names (members_view (e ∷ es))
    → is_among names (string_bytes e.0) ≡ false → false ≡ members_among names all
other_name names all e es so_far other = sym (so_far ∙ rw other refl)

-- the next name is one of the list
pub known_name : (names : List (List ℕ)) (all : Members) (e : Entry) (es : List Entry) → members_among names all ≡ members_among names (members_view (e ∷ es))
    → is_among names (string_bytes e.0) ≡ true → members_among names all ≡ members_among names (members_view es)
known_name names all e es so_far known = so_far ∙ rw known refl
