use Rattle.std.proofs.Common.{◌≡◌, ◌++◌, take, map}
use Rattle.std.specs.Prelude.{All}
use Rattle.serde_json.specs.View.{view}
use Rattle.desk_json.specs.CursorReading.{IsPick}
use Rattle.desk_json.specs.Values.{number_or_null}
use Rattle.desk_json.proofs.pages.push_picks.Given as goal

abbrev pub invariant-loop-pick : goal.invariant-loop-pick
invariant-loop-pick l = (map view l.cells.items ≡ map view l.initial.cells.items ++ map number_or_null (take l.pick-index l.picks)) × All IsPick (take l.pick-index l.picks)
