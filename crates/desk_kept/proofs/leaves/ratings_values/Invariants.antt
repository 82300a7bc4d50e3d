use Rattle.std.proofs.Common.{◌≡◌, take, map}
use Rattle.serde_json.specs.View.{view}
use Rattle.desk_kept.specs.Leaves.{rating_data}
use Rattle.desk_kept.proofs.leaves.ratings_values.Given as goal

abbrev pub invariant-loop-id : goal.invariant-loop-id
invariant-loop-id l = map view l.values.items ≡ map rating_data (take l.id-index l.ratings)
