-- Members whose leaves are looked at one after another.
use Rattle.std.proofs.Common.{◌≡◌, true, false, List, ◌∷◌, codes, bytes_eq, string_bytes, refl, sym, ◌∙◌, if◌then◌else◌}
use Rattle.serde_json.specs.Data.{Members}
use Rattle.serde_json.specs.View.{view, members_view}
use Rattle.serde_json.proofs.Views.{Entry}
use Rattle.desk_kept.specs.Versions.{has_offset_as, leaves_are, members_are}
use Rattle.desk_kept.specs.declared.versions.Version.{Version}

-- what stands under the next name is not of the version
pub other_member : (v : Version) (all : Members) (e : Entry) (es : List Entry) → members_are v all ≡ members_are v (members_view (e ∷ es))
    → (if bytes_eq (string_bytes e.0) (codes "leaf") then has_offset_as v (view e.1) else leaves_are v (view e.1)) ≡ false → false ≡ members_are v all
other_member v all e es so_far other = sym (so_far ∙ rw other refl)

-- what stands under the next name is
pub next_member : (v : Version) (all : Members) (e : Entry) (es : List Entry) → members_are v all ≡ members_are v (members_view (e ∷ es))
    → (if bytes_eq (string_bytes e.0) (codes "leaf") then has_offset_as v (view e.1) else leaves_are v (view e.1)) ≡ true → members_are v all ≡ members_are v (members_view es)
next_member v all e es so_far is = so_far ∙ rw is refl
