-- What the tree of a group is read as: its nodes and its leaves, both in preorder. Each fault in it is one of its field.
use Rattle.std.specs.Prelude.{ℕ, zero, suc, ◌-◌, List, [], ◌∷◌, ◌++◌, codes, Option, Some, None, Result, Ok, is_some, if◌then◌else◌, ⊤}
use Rattle.serde_json.specs.Data.{Data, Items, no_items, item}
use Rattle.serde_json.specs.Find.{get, as_array, as_object}
use Rattle.desk_base.specs.declared.asked.rules.Field.{Field}
use Rattle.desk_base.specs.declared.values.minutes.Window.{Window}
use Rattle.desk_base.specs.declared.rows.resources.Kind.{Kind}
use Rattle.desk_base.specs.declared.rows.groups.Leaf.{Leaf}
use Rattle.desk_base.specs.declared.rows.groups.NodeKind.{NodeKind}
use Rattle.desk_base.specs.declared.rows.groups.NodeKind.TheVariants.{All, Any, Leaf as LeafNode}
use Rattle.desk_base.specs.declared.rows.groups.Same.{Same}
use Rattle.desk_base.specs.declared.rows.groups.Same.TheVariants as same
use Rattle.desk_json.specs.declared.trees.Tree.{Tree}
use Rattle.desk_json.specs.declared.faults.BodyError.{BodyError}
use Rattle.desk_json.specs.declared.faults.BodyRule.{BodyRule}
use Rattle.desk_json.specs.declared.faults.BodyRule.TheVariants.{Missing, Sort, Range, Unknown}
use Rattle.desk_json.specs.Faults.{fault, ◌>>=◌}
use Rattle.desk_json.specs.Reading.{greatest_u8, u32_in, text_in, id_in, kind_in, named, or_fault}
use Rattle.desk_json.specs.Lists.{items_in, list_in, rating_in, window_in}
use Rattle.desk_json.specs.Forms.{Form, part, part_or, under_or, both, three, made, has_only}

-- what is no object breaks a rule
abbrev pub object_in : BodyRule → Field → Data → Result ⊤ BodyError
object_in rule field d = if is_some (as_object d) then Ok tt else fault rule field

-- what was read, where the object has no other names than these
abbrev pub with_only : {X : Type 0} → List (List ℕ) → Field → Data → X → Result X BodyError
with_only names field d x = if has_only names d then Ok x else fault Unknown field

-- ---- leaves

-- how long, how long after the start of the group (which may be absent and is then 0), and with which effort
unfoldable pub amounts_form : Field → Form (ℕ × ℕ × ℕ)
amounts_form field = three (part (codes "duration") field u32_in) (part_or 0 (codes "offset") field u32_in) (part (codes "effort") field u32_in)

-- a list that may be absent and is then empty
abbrev pub list_form : {X : Type 0} → (Field → Data → Result X BodyError) → List ℕ → Field → Form (List X)
list_form read name field = part_or [] name field (list_in read)

-- the kinds of which a resource is one, the roles of which it has one, and the characteristics, all of which it has
unfoldable pub kinds_form : Field → Form (List Kind)
kinds_form = list_form kind_in (codes "kinds")

unfoldable pub roles_form : Field → Form (List ℕ)
roles_form = list_form id_in (codes "roles")

unfoldable pub characteristics_form : Field → Form (List (ℕ × ℕ))
characteristics_form = list_form rating_in (codes "characteristics")

-- the territories of which it has one, and the units of one of which it is
unfoldable pub territories_form : Field → Form (List ℕ)
territories_form = list_form id_in (codes "territories")

unfoldable pub units_form : Field → Form (List ℕ)
units_form = list_form id_in (codes "units")

-- the resources of which it is one, and those of which it is none
unfoldable pub required_form : Field → Form (List ℕ)
required_form = list_form id_in (codes "required")

unfoldable pub restricted_form : Field → Form (List ℕ)
restricted_form = list_form id_in (codes "restricted")

-- what a resource is to have
unfoldable pub traits_form : Field → Form (List Kind × List ℕ × List (ℕ × ℕ))
traits_form field = three (kinds_form field) (roles_form field) (characteristics_form field)

-- where a resource is to be
unfoldable pub places_form : Field → Form (List ℕ × List ℕ)
places_form field = both (territories_form field) (units_form field)

-- which resources alone serve, and which do not
unfoldable pub choices_form : Field → Form (List ℕ × List ℕ)
choices_form field = both (required_form field) (restricted_form field)

-- a window of its own, which may be absent
unfoldable pub own_window_form : Field → Form (Option Window)
own_window_form field = part_or None (codes "window") field (λ f d. window_in f d >>= λ w. Ok (Some w))

-- the fields of a leaf
unfoldable pub leaf_form : Field → Form Leaf
leaf_form field =
    made (λ x. record {
      duration = x.0.0.0;
      offset = x.0.0.1;
      effort = x.0.0.2;
      kinds = x.0.1.0;
      roles = x.0.1.1;
      characteristics = x.0.1.2;
      territories = x.1.0.0;
      units = x.1.0.1;
      required = x.1.1.0;
      restricted = x.1.1.1;
      window = x.1.2;
    })
    (both (both (amounts_form field) (traits_form field)) (three (places_form field) (choices_form field) (own_window_form field)))

-- a leaf, which has no other names
unfoldable pub leaf_in : Field → Data → Result Leaf BodyError
leaf_in field d = (leaf_form field).read d >>= with_only (leaf_form field).names field d

-- ---- nodes

-- the names of what resources are to have in common
abbrev pub sames : List (List ℕ × Same)
sames = (codes "unit", same.Unit) ∷ (codes "site", same.Site) ∷ (codes "crew", same.Crew) ∷ []

-- what has this name
unfoldable pub same_named : List ℕ → Option Same
same_named text = named sames text

-- what resources are to have in common, by its name
unfoldable pub same_in : Field → Data → Result Same BodyError
same_in field d = text_in field d >>= λ text. or_fault (fault Range field) (same_named text)

-- one node more
abbrev pub with_node : ℕ → NodeKind → Same → Tree → Tree
with_node depth kind shared t = record { nodes = t.nodes ++ record { depth = depth; kind = kind; same = shared } ∷ []; leaves = t.leaves }

-- one leaf more
abbrev pub with_leaf : Leaf → Tree → Tree
with_leaf leaf t = record { nodes = t.nodes; leaves = t.leaves ++ leaf ∷ [] }

-- the node of an object that has children, and no names but these, behind the nodes before it
unfoldable pub inner_in : NodeKind → List (List ℕ) → ℕ → Field → Tree → Data → Data → Result Tree BodyError
inner_in kind names depth field before d children =
    items_in field (as_array children) >>= λ _.
    under_or same.None (codes "same") field same_in d >>= λ shared.
    with_only names field d (with_node depth kind shared before)

-- the node of an object that has a leaf: the faults of its own come before those of the leaf's fields
unfoldable pub outer_in : ℕ → Field → Tree → Data → Data → Result Tree BodyError
outer_in depth field before d leaf =
    object_in Sort field leaf >>= λ _.
    with_only (codes "leaf" ∷ []) field d leaf >>= λ own.
    leaf_in field own >>= λ x. Ok (with_leaf x (with_node depth LeafNode same.None before))

-- the form of an object is the first of these names that it has
abbrev pub node_of : ℕ → Field → Tree → Data → Option Data → Option Data → Option Data → Result Tree BodyError
node_of depth field before d (Some children) any leaf = inner_in All (codes "all" ∷ codes "same" ∷ []) depth field before d children
node_of depth field before d None (Some children) leaf = inner_in Any (codes "any" ∷ codes "same" ∷ []) depth field before d children
node_of depth field before d None None (Some leaf) = outer_in depth field before d leaf
node_of depth field before d None None None = fault Missing field

-- the node of a tree, without its children
unfoldable pub node_in : ℕ → Field → Tree → Data → Result Tree BodyError
node_in depth field before d = object_in Sort field d >>= λ _. node_of depth field before d (get (codes "all") d) (get (codes "any") d) (get (codes "leaf") d)

-- ---- trees

-- the items of a list, and none of another value
abbrev pub items_or_none : Option Items → Items
items_or_none (Some items) = items
items_or_none None = no_items

-- the children of a node, by the first of these names that it has
abbrev pub children_of : Option Data → Option Data → Items
children_of (Some children) any = items_or_none (as_array children)
children_of None (Some children) = items_or_none (as_array children)
children_of None None = no_items

-- items that are read one after the other, each onto what was read before
abbrev pub each_onto : {X : Type 0} → (X → Data → Result X BodyError) → X → Items → Result X BodyError
each_onto read before no_items = Ok before
each_onto read before (item d ds) = read before d >>= λ after. each_onto read after ds

-- how many levels a tree may have, so that a byte holds the depth of each node; no JSON that is read nests as deep
abbrev pub tree_levels : ℕ
tree_levels = greatest_u8

-- a node and then its children, one after the other, where so many levels are left
unfoldable pub tree_onto : ℕ → Field → Tree → Data → Result Tree BodyError
tree_onto zero field before d = fault Range field
tree_onto (suc below) field before d =
    node_in (tree_levels - suc below) field before d >>= λ begun. each_onto (tree_onto below field) begun (children_of (get (codes "all") d) (get (codes "any") d))

-- a tree
unfoldable pub tree_in : Field → Data → Result Tree BodyError
tree_in field d = tree_onto tree_levels field (record { nodes = []; leaves = [] }) d
