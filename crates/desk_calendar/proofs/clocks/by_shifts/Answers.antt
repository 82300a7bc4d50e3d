use Rattle.std.proofs.Common.{◌≡◌, ◌<◌, ◌∙◌, ap, sym, subst, arith}
use Rattle.desk_base.specs.rules.Limits.{end_of_minutes}
use Rattle.desk_calendar.specs.Clocks.{GoesOn}
use Rattle.desk_base.proofs.lists.Bounds.{take_whole}
use Rattle.desk_calendar.proofs.ClockLemmas.{next_shift, offset_all, next_below, next_after, goes_on}
use Rattle.desk_calendar.proofs.clocks.by_shifts.Goals as goal

until_is : (c : goal.After-by_offset) → c.loop-shift.until ≡ next_shift c.args.minute end_of_minutes c.args.shifts.now
until_is c = c.loop-shift.invariant.until ∙ ap (next_shift c.args.minute end_of_minutes) (take_whole c.args.shifts.now c.loop-shift.shift-index c.loop-shift-test.false)

pub returns-clause-shown : goal.returns-clause-shown
returns-clause-shown c = c.by_offset.ensures.value ∙ offset_all c.args.minute c.loop-shift.shift-index _ c.args.shifts.now c.loop-shift.invariant.offset c.loop-shift-test.false

pub returns-clause-later : goal.returns-clause-later
returns-clause-later c = subst (λ n. c.args.minute < n) (sym (until_is c)) (next_after c.args.minute end_of_minutes c.args.shifts.now c.requires)

pub returns-clause-until : goal.returns-clause-until
returns-clause-until c = omega (arith, until_is c, next_below c.args.minute end_of_minutes c.args.shifts.now)

pub returns-clause-on : goal.returns-clause-on
returns-clause-on c = subst (GoesOn c.args.shifts.now c.args.minute) (sym (until_is c)) (goes_on c.args.shifts.now c.args.minute end_of_minutes)
