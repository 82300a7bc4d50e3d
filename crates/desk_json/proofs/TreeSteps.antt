-- A tree, level by level.
use Rattle.std.proofs.Common.{◌≡◌, ℕ, zero, suc, ◌-◌, ◌<◌, refl, arith}
use Rattle.serde_json.specs.Data.{Data}
use Rattle.serde_json.specs.Find.{get}
use Rattle.std.proofs.Common.{codes, Result}
use Rattle.desk_base.specs.declared.asked.rules.Field.{Field}
use Rattle.desk_json.specs.declared.trees.Tree.{Tree}
use Rattle.desk_json.specs.declared.faults.BodyError.{BodyError}
use Rattle.desk_json.specs.declared.faults.BodyRule.TheVariants.{Range}
use Rattle.desk_json.specs.Faults.{fault, ◌>>=◌}
use Rattle.desk_json.specs.TreeReading.{node_in, children_of, each_onto, tree_levels, tree_onto}

-- a node and then its children
abbrev pub level : ℕ → Field → Tree → Data → Result Tree BodyError
level levels field before d =
    node_in (tree_levels - levels) field before d >>= λ begun. each_onto (tree_onto (levels - 1) field) begun (children_of (get (codes "all") d) (get (codes "any") d))

pub no_level : (levels : ℕ) (field : Field) (before : Tree) (d : Data) → levels ≡ 0 → tree_onto levels field before d ≡ fault Range field
unfolding tree_onto
no_level levels field before d e = rw e refl

pub one_level : (levels : ℕ) (field : Field) (before : Tree) (d : Data) → 0 < levels → tree_onto levels field before d ≡ level levels field before d
unfolding tree_onto
one_level zero field before d some = absurd (omega arith)
one_level (suc below) field before d some = let e : suc below - 1 ≡ below = omega arith in rw e refl
