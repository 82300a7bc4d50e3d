use Rattle.desk_json.proofs.Runs.{next_number}
use Rattle.desk_json.proofs.receipts.bookings_value.Goals as goal

pub loop-place-preserved : goal.loop-place-preserved
loop-place-preserved c = next_number c.loop-place.numbers.items c.push.new.list.items c.booking_number.result c.args.first c.loop-place.place c.in_ok-push.ensures.ok c.booking_number.ensures c.loop-place.invariant
