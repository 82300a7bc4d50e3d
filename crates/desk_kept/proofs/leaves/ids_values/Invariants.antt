use Rattle.std.proofs.Common.{◌≡◌, take, map}
use Rattle.serde_json.specs.View.{view}
use Rattle.desk_json.specs.Values.{whole_number}
use Rattle.desk_kept.proofs.leaves.ids_values.Given as goal

abbrev pub invariant-loop-id : goal.invariant-loop-id
invariant-loop-id g l = map view l.values.items ≡ map whole_number (take l.id-index l.ids)
