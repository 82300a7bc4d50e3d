use Rattle.std.proofs.Common.{◌≡◌, ◌<◌, ◌-◌, length, get_or, w32, ℤ, pos, FitsSigned, to_z, of_z, to_z-of_z, sym, ◌∙◌, subst, arith}
use Rattle.jiff_core.specs.Calendar.{IsWithin}
use Rattle.jiff_core.proofs.SignedLemmas.{signed_arith}
use Rattle.desk_time.specs.Limits.{minutes_a_day}
use Rattle.desk_time.proofs.ShiftLemmas.{offset_within, offset_at-is}
use Rattle.desk_time.proofs.zones.offset_at.Goals as goal

-- an offset of a day at most is the number that its bits are
as_written : (z : ℤ) → IsWithin minutes_a_day z → to_z w32 (of_z w32 z) ≡ z
as_written z h = let fits : FitsSigned w32 z = omega (arith, signed_arith, h.0, h.1) in to_z-of_z fits

pub returns-clause-value : goal.returns-clause-value
returns-clause-value c =
    let shifts = c.args.shifts.now in
    let in_list : c.begun.result - 1 < length shifts = omega (arith, c.begun.ensures.some, c.begun.ensures.no_more) in
    as_written (get_or shifts (c.begun.result - 1) (0, pos 0)).1 (offset_within shifts c.requires.zone (c.begun.result - 1) (0, pos 0) in_list)
    ∙ sym (offset_at-is shifts c.args.minute (c.begun.result - 1) (0, pos 0) in_list c.begun.ensures.last)

pub returns-clause-a_day_at_most : goal.returns-clause-a_day_at_most
returns-clause-a_day_at_most c =
    let shifts = c.args.shifts.now in
    let in_list : c.begun.result - 1 < length shifts = omega (arith, c.begun.ensures.some, c.begun.ensures.no_more) in
    let within = offset_within shifts c.requires.zone (c.begun.result - 1) (0, pos 0) in_list in
    subst (IsWithin minutes_a_day) (sym (as_written (get_or shifts (c.begun.result - 1) (0, pos 0)).1 within)) within
