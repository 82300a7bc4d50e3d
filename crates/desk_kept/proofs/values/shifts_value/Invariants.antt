use Rattle.std.proofs.Common.{◌≡◌, take, map}
use Rattle.serde_json.specs.View.{view}
use Rattle.desk_kept.specs.Values.{shift_data}
use Rattle.desk_kept.proofs.values.shifts_value.Given as goal

abbrev pub invariant-loop-from : goal.invariant-loop-from
invariant-loop-from l = map view l.values.items ≡ map shift_data (take l.from-index l.shifts)
