use Rattle.desk_base.specs.rules.Sound.{AreWellFormed}
use Rattle.tests_load.proofs.teams.with_bookings.Given as goal

abbrev pub invariant-loop-booking : goal.invariant-loop-booking
invariant-loop-booking l = AreWellFormed l.tables
