-- What is kept of a row has no float.
use Rattle.std.proofs.Common.{◌≡◌, ℕ, ℤ, pos, negsuc, nat_lt, Bool, true, false, List, [], ◌∷◌, ◌++◌, map, codes, Option, Some, None, refl, if◌then◌else◌}
use Rattle.std.specs.Bool.{⊤}
use Rattle.serde_json.specs.Data.{Data}
use Rattle.serde_json.specs.View.{items_of}
use Rattle.serde_json.specs.Written.{has_float, items_have_float, members_have_float}
use Rattle.desk_base.specs.declared.values.minutes.Window.{Window}
use Rattle.desk_base.specs.declared.rows.groups.Leaf.{Leaf}
use Rattle.desk_base.specs.declared.rows.groups.Node.{Node}
use Rattle.desk_base.specs.declared.rows.groups.NodeKind.{NodeKind}
use Rattle.desk_base.specs.declared.rows.groups.NodeKind.TheVariants as kind
use Rattle.desk_base.specs.declared.rows.groups.Same.{Same}
use Rattle.desk_base.specs.declared.rows.groups.Same.TheVariants as same
use Rattle.desk_base.specs.declared.rows.bookings.Receipt.{Receipt}
use Rattle.desk_base.specs.declared.rows.bookings.Receipt.TheVariants as receipt
use Rattle.desk_base.specs.declared.rows.tables.AnyRow.{AnyRow}
use Rattle.desk_base.specs.declared.rows.tables.AnyRow.TheVariants.{Zone, Calendar, Work, Break, Day, Off, Unit, Site, Role, Characteristic, Territory, Resource, HasRole, HasCharacteristic, HasTerritory, Member, Group, Booking, Caller}
use Rattle.desk_json.specs.Values.{whole_number, list_of, number_or_null}
use Rattle.desk_kept.specs.Values.{kind_data, shift_data}
use Rattle.desk_kept.specs.Callers.{receipt_data}
use Rattle.desk_kept.specs.Leaves.{present, filled, rating_data, own_window, first_entries, middle_entries, last_entries, leaf_data}
use Rattle.desk_kept.specs.Groups.{same_data, node_data, Placed, children, siblings_after, first_leaf, leaves_after, first_tree, trees_of}
use Rattle.desk_kept.specs.Kept.{row_data}
use Rattle.desk_kept.proofs.Present.{Entries}

-- ---- lists and members

each_plain : {X : Type 0} (data_of : X → Data) → ((x : X) → has_float (data_of x) ≡ false) → (xs : List X) → items_have_float (items_of (map data_of xs)) ≡ false
each_plain data_of plain [] = refl
each_plain data_of plain (x ∷ xs) = rw (plain x, each_plain data_of plain xs) refl

-- a value that is there has no float
abbrev IsPlain : Option Data → Type 0
IsPlain (Some d) = has_float d ≡ false
IsPlain None = ⊤

abbrev ArePlain : Entries → Type 0
ArePlain [] = ⊤
ArePlain (e ∷ es) = IsPlain e.1 × ArePlain es

present_plain : (es : Entries) → ArePlain es → members_have_float (present es) ≡ false
present_plain [] h = refl
present_plain ((l, Some d) ∷ es) h = rw (h.0, present_plain es h.1) refl
present_plain ((l, None) ∷ es) h = present_plain es h.1

filled_plain : {X : Type 0} (data_of : X → Data) → ((x : X) → has_float (data_of x) ≡ false) → (xs : List X) → IsPlain (filled (map data_of xs))
filled_plain data_of plain [] = tt
filled_plain data_of plain (x ∷ xs) = each_plain data_of plain (x ∷ xs)

shift_plain : (z : ℤ) (m : ℕ) → has_float (shift_data (m, z)) ≡ false
shift_plain (pos n) m = refl
shift_plain (negsuc n) m = refl

id_plain : (id : Option ℕ) → has_float (number_or_null id) ≡ false
id_plain (Some n) = refl
id_plain None = refl

receipt_plain : (r : Receipt) → has_float (receipt_data r) ≡ false
receipt_plain receipt.Put = refl
receipt_plain receipt.Removed = refl
receipt_plain (receipt.Booked first count effort_minutes) = refl
receipt_plain (receipt.Cancelled count effort_minutes) = refl

-- ---- leaves

numbers_plain : (ns : List ℕ) → IsPlain (filled (map whole_number ns))
numbers_plain = filled_plain whole_number (λ n. refl)

window_plain : (w : Option Window) → IsPlain (own_window w)
window_plain (Some w) = refl
window_plain None = tt

leaf_plain : (l : Leaf) → has_float (leaf_data l) ≡ false
leaf_plain l =
    present_plain (first_entries l ++ middle_entries l ++ last_entries l) (
      filled_plain rating_data (λ c. refl) l.characteristics,
      (
        refl,
        (
          refl,
          (
            filled_plain kind_data (λ k. refl) l.kinds,
            (
              refl,
              (
                numbers_plain l.required,
                (
                  numbers_plain l.restricted,
                  (
                    numbers_plain l.roles,
                    (numbers_plain l.territories, (numbers_plain l.units, (window_plain l.window, tt))),
                  ),
                ),
              ),
            ),
          ),
        ),
      ),
    )

-- ---- trees

abbrev ArePlainTrees : List Placed → Type 0
ArePlainTrees [] = ⊤
ArePlainTrees (p ∷ ps) = (has_float p.data_of ≡ false) × ArePlainTrees ps

siblings_by : (p : Placed) (ps others : List Placed) (b : Bool) → ArePlainTrees others → ArePlainTrees (p ∷ ps) → ArePlainTrees (if b then others else p ∷ ps)
siblings_by p ps others true h k = h
siblings_by p ps others false h k = k

siblings_plain : (d : ℕ) (ps : List Placed) → ArePlainTrees ps → ArePlainTrees (siblings_after d ps)
siblings_plain d [] h = tt
siblings_plain d (p ∷ ps) h = siblings_by p ps (siblings_after d ps) (nat_lt d p.depth) (siblings_plain d ps h.1) h

children_by : (p : Placed) (ds : List Data) (b : Bool) → has_float p.data_of ≡ false → items_have_float (items_of ds) ≡ false → items_have_float (items_of (if b then p.data_of ∷ ds else [])) ≡ false
children_by p ds true h k = rw (h, k) refl
children_by p ds false h k = refl

children_plain : (d : ℕ) (ps : List Placed) → ArePlainTrees ps → items_have_float (items_of (children d ps)) ≡ false
children_plain d [] h = refl
children_plain d (p ∷ ps) h = children_by p (children d ps) (nat_lt d p.depth) h.0 (children_plain d ps h.1)

same_plain : (s : Same) → IsPlain (same_data s)
same_plain same.None = tt
same_plain same.Unit = refl
same_plain same.Site = refl
same_plain same.Crew = refl

node_plain : (k : NodeKind) (s : Same) (ds : List Data) (leaf : Data) → items_have_float (items_of ds) ≡ false → has_float leaf ≡ false → has_float (node_data k s ds leaf) ≡ false
node_plain kind.All s ds leaf h plain = present_plain ((codes "all", Some (list_of ds)) ∷ (codes "same", same_data s) ∷ []) (h, (same_plain s, tt))
node_plain kind.Any s ds leaf h plain = present_plain ((codes "any", Some (list_of ds)) ∷ (codes "same", same_data s) ∷ []) (h, (same_plain s, tt))
node_plain kind.Leaf s ds leaf h plain = rw plain refl

first_plain : (ls : List Leaf) → has_float (first_leaf ls) ≡ false
first_plain [] = refl
first_plain (l ∷ ls) = leaf_plain l

trees_plain : (ns : List Node) (ls : List Leaf) → ArePlainTrees (trees_of ns ls)
trees_plain [] ls = tt
trees_plain (n ∷ ns) ls =
    let later = trees_plain ns (leaves_after n.kind ls) in
    let ps = trees_of ns (leaves_after n.kind ls) in
    (node_plain n.kind n.same (children n.depth ps) (first_leaf ls) (children_plain n.depth ps later) (first_plain ls), siblings_plain n.depth ps later)

tree_plain : (ps : List Placed) → ArePlainTrees ps → has_float (first_tree ps) ≡ false
tree_plain [] h = refl
tree_plain (p ∷ ps) h = h.0

-- ---- rows

pub row_plain : (row : AnyRow) → has_float (row_data row) ≡ false
row_plain (Zone x) = rw (each_plain shift_data (λ s. shift_plain s.1 s.0) x.shifts) refl
row_plain (Resource x) = rw (id_plain x.calendar) refl
row_plain (Group x) = rw (tree_plain (trees_of x.nodes x.leaves) (trees_plain x.nodes x.leaves)) refl
row_plain (Caller x) = rw (receipt_plain x.receipt) refl
row_plain (Calendar x) = refl
row_plain (Work x) = refl
row_plain (Break x) = refl
row_plain (Day x) = refl
row_plain (Off x) = refl
row_plain (Unit x) = refl
row_plain (Site x) = refl
row_plain (Role x) = refl
row_plain (Characteristic x) = refl
row_plain (Territory x) = refl
row_plain (HasRole x) = refl
row_plain (HasCharacteristic x) = refl
row_plain (HasTerritory x) = refl
row_plain (Member x) = refl
row_plain (Booking x) = refl
