use Rattle.std.proofs.Common.{◌≡◌, take, map}
use Rattle.serde_json.specs.View.{view}
use Rattle.desk_kept.specs.Values.{kind_data}
use Rattle.desk_kept.proofs.leaves.kinds_values.Given as goal

abbrev pub invariant-loop-kind : goal.invariant-loop-kind
invariant-loop-kind l = map view l.values.items ≡ map kind_data (take l.kind-index l.kinds)
