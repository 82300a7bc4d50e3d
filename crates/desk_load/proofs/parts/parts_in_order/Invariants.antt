use Rattle.std.proofs.Common.{◌≡◌, ℕ, map, take}
use Rattle.std.specs.Prelude.{sum_by}
use Rattle.desk_base.specs.meaning.Load.{weight, ask_of}
use Rattle.desk_load.specs.Parts.{part_at}
use Rattle.desk_load.proofs.parts.parts_in_order.Given as goal

abbrev pub invariant-loop-booking : goal.invariant-loop-booking
invariant-loop-booking l = (r m : ℕ) → sum_by (part_at r m) l.parts.items ≡ weight l.tables (map ask_of (take l.booking-index l.bookings)) r m
