use Rattle.std.proofs.Common.{◌+◌, length, ap, ◌∙◌, arith}
use Rattle.desk_base.specs.meaning.Picks.{choices_of}
use Rattle.desk_base.proofs.tables.Sounds.{well_formed}
use Rattle.desk_base.proofs.meaning.Shapes.{few_leaves}
use Rattle.desk_base.proofs.booked.NewBookings.{length-bookings_from}
use Rattle.desk_feasible.proofs.Asked.{ends_fit}
use Rattle.desk_base.proofs.meaning.Chosen.{choices-le-leaves, some_chosen}
use Rattle.desk_core.proofs.effects.effect_of_booking.Goals as goal

pub new_bookings-requires-clause-few : goal.new_bookings-requires-clause-few
new_bookings-requires-clause-few c = let few = few_leaves c.args.tables.now c.args.group.now (well_formed c.args.tables.now c.requires.sound) c.requires.there in omega arith

pub new_bookings-requires-clause-end : goal.new_bookings-requires-clause-end
new_bookings-requires-clause-end c = ends_fit c.args.tables.now c.args.group.now c.args.start (choices_of 0 c.args.group.now.leaves c.args.picks.now) (omega arith) c.requires.feasible.serve

pub effect_of_made-requires-clause-numbers : goal.effect_of_made-requires-clause-numbers
effect_of_made-requires-clause-numbers c =
    let made = ap length (c.as_slice.ensures.value ∙ c.in_ok-made.ensures) in
    let each = length-bookings_from c.args.group.now c.args.start (c.args.tables.now.last_booking + 1) (choices_of 0 c.args.group.now.leaves c.args.picks.now) in
    omega (arith, made, each, c.requires.numbers)

pub effect_of_made-requires-clause-some : goal.effect_of_made-requires-clause-some
effect_of_made-requires-clause-some c =
    let made = ap length (c.as_slice.ensures.value ∙ c.in_ok-made.ensures) in
    let each = length-bookings_from c.args.group.now c.args.start (c.args.tables.now.last_booking + 1) (choices_of 0 c.args.group.now.leaves c.args.picks.now) in
    let some = some_chosen c.args.tables.now c.args.group.now c.args.picks.now (well_formed c.args.tables.now c.requires.sound) c.requires.there c.requires.feasible.pattern in
    omega (arith, made, each, some)

pub effect_of_made-requires-clause-few : goal.effect_of_made-requires-clause-few
effect_of_made-requires-clause-few c =
    let made = ap length (c.as_slice.ensures.value ∙ c.in_ok-made.ensures) in
    let each = length-bookings_from c.args.group.now c.args.start (c.args.tables.now.last_booking + 1) (choices_of 0 c.args.group.now.leaves c.args.picks.now) in
    let most = choices-le-leaves 0 c.args.group.now.leaves c.args.picks.now in
    let few = few_leaves c.args.tables.now c.args.group.now (well_formed c.args.tables.now c.requires.sound) c.requires.there in
    omega (arith, made, each, most, few)
