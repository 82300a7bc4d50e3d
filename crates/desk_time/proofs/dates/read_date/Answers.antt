use Rattle.std.proofs.Common.{◌≡◌, ◌∙◌, [], ◌∷◌, length, get_or, refl, arith}
use Rattle.std.proofs.lemmas.Slice.Eq.{text_from_reads}
use Rattle.desk_time.proofs.DateTexts.{reads_date_text, written_by_digits}
use Rattle.desk_time.proofs.dates.read_date.Goals as goal

pub returns-in_ok-month_day-in-45 : goal.returns-in_ok-month_day-in-45
returns-in_ok-month_day-in-45 c =
    let text = c.args.text.now in
    let year = c.in_ok-year-in-45 in
    let month = c.in_ok-month-in-45 in
    let month_day = c.in_ok-month_day-in-45 in
    let ten : length text ≡ 10 = omega arith in
    let first : get_or text 4 0 ≡ 45 = omega arith in
    let second : get_or text 7 0 ≡ 45 = omega arith in
    let bytes = text_from_reads text (get_or text 0 0 ∷ get_or text 1 0 ∷ get_or text 2 0 ∷ get_or text 3 0 ∷ 45 ∷ get_or text 5 0 ∷ get_or text 6 0 ∷ 45 ∷ get_or text 8 0 ∷ get_or text 9 0 ∷ []) ten (refl, (refl, (refl, (refl, (first, (refl, (refl, (second, (refl, (refl, tt)))))))))) in
    reads_date_text text year.year month.month month_day.month_day (bytes ∙ written_by_digits _ _ _ _ _ _ _ _ _ _ _ year.ensures month.ensures month_day.ensures) c.day_of.result c.day_of.ensures
