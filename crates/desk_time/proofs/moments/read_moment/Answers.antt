use Rattle.std.proofs.Common.{◌≡◌, ◌-◌, length, get_or, sym, subst, refl, arith}
use Rattle.desk_time.specs.Reads.{Reads}
use Rattle.desk_time.specs.Moments.{IsMomentText}
use Rattle.desk_time.proofs.MomentTexts.{cut_at_the_end, reads_no_date, reads_no_clock, reads_moment}
use Rattle.desk_time.proofs.moments.read_moment.Goals as goal

pub returns-in_err-day-in-84 : goal.returns-in_err-day-in-84
returns-in_err-day-in-84 c =
    let text = c.args.text.now in
    let t : get_or text (length text - 7) 0 ≡ 84 = omega arith in
    let colon : get_or text (length text - 4) 0 ≡ 58 = omega arith in
    let z : get_or text (length text - 1) 0 ≡ 90 = omega arith in
    let cut = cut_at_the_end text c.in-84.len_at_least t colon z in
    subst (Reads (IsMomentText text)) (sym c.from_residual.ensures) (reads_no_date text _ _ refl cut c.in_err-day-in-84.ensures)

pub returns-in_err-minute-in-84 : goal.returns-in_err-minute-in-84
returns-in_err-minute-in-84 c =
    let text = c.args.text.now in
    let t : get_or text (length text - 7) 0 ≡ 84 = omega arith in
    let colon : get_or text (length text - 4) 0 ≡ 58 = omega arith in
    let z : get_or text (length text - 1) 0 ≡ 90 = omega arith in
    let cut = cut_at_the_end text c.in-84.len_at_least t colon z in
    subst (Reads (IsMomentText text)) (sym c.from_residual-in_err-minute-in-84.ensures) (reads_no_clock text _ _ refl cut c.in_err-minute-in-84.ensures)

pub returns-in_ok-minute-in-84 : goal.returns-in_ok-minute-in-84
returns-in_ok-minute-in-84 c =
    let text = c.args.text.now in
    let t : get_or text (length text - 7) 0 ≡ 84 = omega arith in
    let colon : get_or text (length text - 4) 0 ≡ 58 = omega arith in
    let z : get_or text (length text - 1) 0 ≡ 90 = omega arith in
    let cut = cut_at_the_end text c.in-84.len_at_least t colon z in
    reads_moment text _ _ refl cut c.in_ok-day-in-84.day c.in_ok-minute-in-84.minute c.in_ok-day-in-84.ensures c.in_ok-minute-in-84.ensures c.moment_at.result c.moment_at.ensures
