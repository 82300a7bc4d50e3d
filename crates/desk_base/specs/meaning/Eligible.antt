-- Which resources serve a leaf.
use Rattle.std.specs.Prelude.{ℕ, Bool, true, not, ◌&&◌, ◌||◌, ◌==◌, nat_le, List, [], ◌∷◌, length, Option, Some, None, if◌then◌else◌}
use Rattle.std.specs.List.{list_any, list_all}
use Rattle.std.specs.Option.{option_map_or, option_or}
use Rattle.desk_base.specs.rows.Types.{Tables, ResourceRow, GroupRow, Leaf, Kind as ResourceKind}
use Rattle.desk_base.specs.declared.rows.resources.Kind.TheVariants.{Generic, Contact, User, Equipment, Account, Facility, Crew, Pool}
use Rattle.desk_base.specs.declared.asked.rules.LeafRule.{LeafRule}
use Rattle.desk_base.specs.declared.asked.rules.LeafRule.TheVariants.{Kind, Role, Characteristic, Territory, Unit as OfUnit, Required, Restricted, Window as OutsideWindow}
use Rattle.desk_base.specs.rules.Rules.{first_broken}
use Rattle.desk_base.specs.meaning.Time.{leaf_time, is_inside}
use Rattle.desk_base.specs.meaning.Capacity.{resource_of}

-- the place of a kind in the list of kinds
abbrev pub kind_number : ResourceKind → ℕ
kind_number Generic = 0
kind_number Contact = 1
kind_number User = 2
kind_number Equipment = 3
kind_number Account = 4
kind_number Facility = 5
kind_number Crew = 6
kind_number Pool = 7

-- an element passes the test, or the list is empty and makes no demand
abbrev pub is_met : {A : Type 0} → (A → Bool) → List A → Bool
is_met p xs = (length xs == 0) || list_any p xs

-- the kind of the resource is in the list of kinds
abbrev pub is_of_kind : Leaf → ResourceRow → Bool
is_of_kind leaf x = is_met (λ k. kind_number k == kind_number x.kind) leaf.kinds

-- r has the role
abbrev pub has_role : Tables → ℕ → ℕ → Bool
has_role t r role = list_any (λ h. (h.resource == r) && (h.what == role)) t.has_roles

-- r has the characteristic with at least this rating
abbrev pub has_rating : Tables → ℕ → ℕ × ℕ → Bool
has_rating t r c = list_any (λ h. (h.resource == r) && (h.what == c.0) && nat_le c.1 h.rating) t.has_characteristics

-- r has the territory
abbrev pub has_territory : Tables → ℕ → ℕ → Bool
has_territory t r y = list_any (λ h. (h.resource == r) && (h.what == y)) t.has_territories

-- whether a resource keeps each rule of a leaf, in the order in which they are judged; only the rule of windows, which rests on the start, comes after them
abbrev pub eligibility : Tables → Leaf → ResourceRow → List (Bool × LeafRule)
eligibility t leaf x =
    (is_of_kind leaf x, Kind)
    ∷ (is_met (has_role t x.id) leaf.roles, Role)
    ∷ (list_all (has_rating t x.id) leaf.characteristics, Characteristic)
    ∷ (is_met (has_territory t x.id) leaf.territories, Territory)
    ∷ (is_met (λ u. u == x.unit) leaf.units, OfUnit)
    ∷ (is_met (λ r. r == x.id) leaf.required, Required)
    ∷ (not (list_any (λ r. r == x.id) leaf.restricted), Restricted)
    ∷ []

-- the first of these rules that r breaks; what is no resource is of no kind, and breaks the first
unfoldable pub first_broken_rule : Tables → Leaf → ℕ → Option LeafRule
first_broken_rule t leaf r = option_map_or (λ x. first_broken (eligibility t leaf x)) (resource_of t r) (Some Kind)

-- from s on the leaf lies inside the group's window and, where it has one, inside its own
abbrev pub is_in_windows : GroupRow → Leaf → ℕ → Bool
is_in_windows g leaf s = is_inside (leaf_time leaf s) (record { from = g.from; to = g.to }) && option_map_or (is_inside (leaf_time leaf s)) leaf.window true

-- the first rule of the leaf that r breaks at s, the rule of windows being the last
abbrev pub first_broken_at : Tables → GroupRow → Leaf → ℕ → ℕ → Option LeafRule
first_broken_at t g leaf s r = option_or (first_broken_rule t leaf r) (if is_in_windows g leaf s then None else Some OutsideWindow)
