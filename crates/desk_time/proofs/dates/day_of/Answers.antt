use Rattle.std.proofs.Common.{◌≡◌, to_z, of_z, w32, FitsSigned, to_z-of_z, ◌∙◌, arith}
use Rattle.jiff_core.proofs.SignedLemmas.{signed_arith}
use Rattle.desk_time.proofs.DateTexts.{reads_day}
use Rattle.desk_time.proofs.dates.day_of.Goals as goal

pub returns : goal.returns
returns c =
    let z = c.to_unix_epoch_day.result in
    let bound = c.to_unix_epoch_day.ensures.bound in
    let fits : FitsSigned w32 z = omega (arith, signed_arith, bound.0, bound.1) in
    let same : to_z w32 (of_z w32 z) ≡ z = to_z-of_z fits in
    reads_day c.args.year c.args.month c.args.month_day c.in_ok-date.date c.in_ok-date.ensures _ (same ∙ c.to_unix_epoch_day.ensures.value) c.day_shown.result c.day_shown.ensures
