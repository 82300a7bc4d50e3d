-- What is known of a group before its search.
use Rattle.std.specs.Prelude.{ℕ, ◌≡◌, List, length, None}
use Rattle.desk_base.specs.declared.rows.tables.Tables.{Tables}
use Rattle.desk_base.specs.declared.rows.groups.GroupRow.{GroupRow}
use Rattle.desk_base.specs.rows.Lookups.{KeysRise}
use Rattle.desk_base.specs.rules.TreeRules.{tree_fault}
use Rattle.desk_need.specs.Candidates.{AreCandidatesOf}
use Rattle.desk_need.specs.Crews.{AreCrewsFor}

-- a group, and the tables in which it stands
pub record Asked : Type 0 where
  pub tables : Tables
  pub group : GroupRow

-- the tables rise, the nodes are a tree, and the candidates are those of the tables, as are the crews where a node asks for one
pub record AreHeld (t : Tables) (g : GroupRow) (candidates : List (List ℕ)) (crews : List ℕ) : Type 0 where
  pub rise : KeysRise t
  pub sound : tree_fault g.nodes (length g.leaves) ≡ None
  pub serve : AreCandidatesOf t g.leaves candidates
  pub enough : AreCrewsFor t g.nodes crews
