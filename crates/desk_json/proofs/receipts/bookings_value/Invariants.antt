use Rattle.std.proofs.Common.{◌≡◌, map}
use Rattle.std.specs.List.{range_with_len}
use Rattle.serde_json.specs.View.{view}
use Rattle.desk_json.specs.Values.{whole_number}
use Rattle.desk_json.proofs.receipts.bookings_value.Given as goal

abbrev pub invariant-loop-place : goal.invariant-loop-place
invariant-loop-place l = map view l.numbers.items ≡ map whole_number (range_with_len l.first l.place)
