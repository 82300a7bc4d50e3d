-- The trees of nodes in preorder: their depths never rise, and those that are deeper than a node are its children.
use Rattle.std.proofs.Common.{◌≡◌, ℕ, ◌≤◌, nat_lt, Bool, true, false, List, [], ◌∷◌, refl, arith, if◌then◌else◌}
use Rattle.std.specs.Bool.{⊤}
use Rattle.std.proofs.lemmas.Bool.{ltb-false}
use Rattle.std.proofs.lemmas.Bool.Decides.{nat_tests}
use Rattle.desk_base.specs.declared.rows.groups.Node.{Node}
use Rattle.desk_base.specs.declared.rows.groups.Leaf.{Leaf}
use Rattle.desk_kept.specs.Groups.{Placed, children, siblings_after, leaves_after, trees_of}

-- the first is at most so deep, and no later one is deeper than the one before
abbrev pub Falls : ℕ → List Placed → Type 0
Falls m [] = ⊤
Falls m (p ∷ ps) = (p.depth ≤ m) × Falls p.depth ps

pub lower : (m k : ℕ) (ps : List Placed) → m ≤ k → Falls m ps → Falls k ps
lower m k [] le h = tt
lower m k (p ∷ ps) le h = (omega (arith, le, h.0), h.1)

fall_by : (d : ℕ) (p : Placed) (ps others : List Placed) (b : Bool) → nat_lt d p.depth ≡ b → Falls p.depth ps → Falls d others → Falls d (if b then others else p ∷ ps)
fall_by d p ps others true e h k = k
fall_by d p ps others false e h k = (ltb-false d p.depth e, h)

siblings_fall : (d m : ℕ) (ps : List Placed) → Falls m ps → Falls d (siblings_after d ps)
siblings_fall d m [] h = tt
siblings_fall d m (p ∷ ps) h = fall_by d p ps (siblings_after d ps) (nat_lt d p.depth) refl h.1 (siblings_fall d p.depth ps h.1)

-- the first tree of nodes begins at the depth of their first
abbrev pub BeginsBy : ℕ → List Node → Type 0
BeginsBy m [] = ⊤
BeginsBy m (n ∷ ns) = n.depth ≤ m

behind_falls : (ns : List Node) (leaves : List Leaf) (d : ℕ) → Falls d (siblings_after d (trees_of ns leaves))
behind_falls [] leaves d = tt
behind_falls (n ∷ ns) leaves d = siblings_fall d n.depth (trees_of (n ∷ ns) leaves) (omega arith, behind_falls ns (leaves_after n.kind leaves) n.depth)

pub trees_fall : (ns : List Node) (leaves : List Leaf) (m : ℕ) → BeginsBy m ns → Falls m (trees_of ns leaves)
trees_fall [] leaves m h = tt
trees_fall (n ∷ ns) leaves m h = (h, behind_falls ns (leaves_after n.kind leaves) n.depth)

not_below : (a b : ℕ) → b ≤ a → nat_lt a b ≡ false
not_below a b le = grind (arith, nat_tests)

-- no tree is deeper than where they fall from
pub no_children : (d : ℕ) (ps : List Placed) → Falls d ps → (children d ps ≡ []) × (siblings_after d ps ≡ ps)
no_children d [] h = (refl, refl)
no_children d (p ∷ ps) h = let e : nat_lt d p.depth ≡ false = not_below d p.depth h.0 in (rw e refl, rw e refl)
