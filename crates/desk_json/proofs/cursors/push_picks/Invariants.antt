use Rattle.std.proofs.Common.{◌≡◌, ◌++◌, take, string_bytes}
use Rattle.std.specs.Prelude.{All}
use Rattle.desk_json.specs.CursorReading.{IsPick}
use Rattle.desk_json.specs.Cursors.{picks_text}
use Rattle.desk_json.proofs.cursors.push_picks.Given as goal

abbrev pub invariant-loop-pick : goal.invariant-loop-pick
invariant-loop-pick l = (string_bytes l.text ≡ string_bytes l.initial.text ++ picks_text (take l.pick-index l.picks)) × All IsPick (take l.pick-index l.picks)
