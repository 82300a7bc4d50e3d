use Rattle.std.proofs.Common.{◌≡◌, map, take}
use Rattle.desk_load.specs.Lists.{owned_bookings}
use Rattle.desk_load.proofs.lists.lists_of.Given as goal

abbrev pub invariant-loop-number : goal.invariant-loop-number
invariant-loop-number l = l.lists.items ≡ map (owned_bookings l.fn.owned.items) (take l.number-index l.numbers)
