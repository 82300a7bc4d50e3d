use Rattle.std.proofs.Common.{◌+◌, length, sym, ap, arith}
use Rattle.desk_base.proofs.tables.Sounds.{keys_rise}
use Rattle.desk_base.specs.meaning.Picks.{choices_of}
use Rattle.desk_base.proofs.booked.NewBookings.{length-bookings_from}
use Rattle.desk_base.proofs.booked.FeasibleBookings.{new_is}
use Rattle.desk_core.proofs.GroupsThere.{found_group}
use Rattle.desk_core.proofs.effects.effect_of_group.Goals as goal

pub group-requires : goal.group-requires
group-requires c table = keys_rise c.args.tables.now table c.requires.sound

pub effect_of_booking-requires-clause-there : goal.effect_of_booking-requires-clause-there
effect_of_booking-requires-clause-there c = found_group c.args.tables.now c.args.group c.in-Some.row.now c.in-Some.ensures

pub effect_of_booking-requires-clause-numbers : goal.effect_of_booking-requires-clause-numbers
effect_of_booking-requires-clause-numbers c =
    let made = ap length (new_is c.args.tables.now c.args.group c.args.start c.args.picks.now c.in-Some.row.now (sym c.in-Some.ensures)) in
    let each = length-bookings_from c.in-Some.row.now c.args.start (c.args.tables.now.last_booking + 1) (choices_of 0 c.in-Some.row.now.leaves c.args.picks.now) in
    omega (arith, made, each, c.requires.numbers)
