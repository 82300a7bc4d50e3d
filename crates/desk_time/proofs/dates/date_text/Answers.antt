use Rattle.std.proofs.Common.{◌≡◌, ◌∙◌, sym, ap, subst, pos, unsigned_abs, to_z, of_z, w16, FitsSigned, to_z-of_z, arith}
use Rattle.jiff_core.proofs.SignedLemmas.{signed_arith}
use Rattle.desk_time.specs.Digits.{four_digits}
use Rattle.desk_time.specs.Dates.{IsDateText, year_of}
use Rattle.desk_time.proofs.DateTexts.{date_text-bytes, date_text-is}
use Rattle.desk_time.proofs.dates.date_text.Goals as goal

pub returns-clause-text : goal.returns-clause-text
returns-clause-text c =
    let date = c.date_of-date.result in
    let fits : FitsSigned w16 date.year = omega (arith, signed_arith, date.year_in.0, date.year_in.1) in
    let year : to_z w16 (of_z w16 date.year) ≡ pos (year_of c.args.day) = to_z-of_z fits ∙ c.date_of-date.ensures.year in
    date_text-bytes c.args.day c.four_digits.result c.two_digits.result c.two_digits-2.result
    (c.four_digits.ensures ∙ ap (λ y. four_digits (unsigned_abs y)) year)
    (rw c.date_of-date.ensures.month at c.two_digits.ensures)
    (rw c.date_of-date.ensures.month_day at c.two_digits-2.ensures)

pub returns-clause-reads : goal.returns-clause-reads
returns-clause-reads c = subst (λ t. IsDateText t c.args.day) (sym (returns-clause-text c)) (date_text-is c.args.day c.requires)
