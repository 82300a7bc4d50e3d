-- Each day that clocks can show has one date text, and each date text has one day.
use Rattle.std.proofs.Common.{◌≡◌, ℕ, List, [], ◌∷◌, ◌++◌, get_or, Option, Some, None, ℤ, pos, refl, sym, ap, subst, ◌∙◌, arith}
use Rattle.std.specs.Prelude.{codes}
use Rattle.jiff_core.specs.Calendar.{days_from_civil, IsCivilDate}
use Rattle.jiff_core.specs.Date.{epoch_day, IsYmd}
use Rattle.jiff_core.specs.declared.civil.date.Date.{Date}
use Rattle.jiff_core.proofs.SignedLemmas.{signed_arith}
use Rattle.jiff_core.proofs.DateLemmas.{civil}
use Rattle.desk_time.specs.Limits.{IsDay}
use Rattle.desk_time.specs.Reads.{Reads}
use Rattle.desk_time.specs.Digits.{two_digits, four_digits, IsTwoDigits, IsFourDigits}
use Rattle.desk_time.specs.Dates.{IsDateOf, IsDateText, written_date, date_text, year_of, month_of, day_of_month}
use Rattle.desk_time.proofs.CalendarDays.{date_of_day, parts_of_date}

-- ---- dates and days

-- a date has one day
IsDateOf-one : (year month month_day a b : ℕ) → IsDateOf year month month_day a → IsDateOf year month month_day b → a ≡ b
IsDateOf-one year month month_day a b h k =
    let same : pos a ≡ pos b = sym h.number ∙ k.number in
    omega (arith, signed_arith)

-- the day of the calendar's own value is the day of its parts
pub reads_day : (year month month_day : ℕ) (d : Date) → IsYmd (pos year) (pos month) (pos month_day) d → (z : ℤ) → z ≡ epoch_day d → (r : Option ℕ) → Reads (λ n. (z ≡ pos n) × IsDay n) r → Reads (IsDateOf year month month_day) r
reads_day year month month_day d is z same r h = reads r h
  where
    same_month : d.month ≡ month
    same_month = omega (arith, signed_arith, is.1)

    same_date : d.day ≡ month_day
    same_date = omega (arith, signed_arith, is.2)

    same_day : days_from_civil (pos year) month month_day ≡ z
    same_day = rw (← is.0, ← same_month, ← same_date) (sym same)

    on_calendar : IsCivilDate (pos year) month month_day
    on_calendar = subst (λ (y : ℤ). IsCivilDate y month month_day) is.0 (rw (← same_month, ← same_date) (civil d))

    reads : (r : Option ℕ) → Reads (λ n. (z ≡ pos n) × IsDay n) r → Reads (IsDateOf year month month_day) r
    reads (Some n) h = record { on_calendar = on_calendar; number = same_day ∙ h.0; in_range = h.1 }
    reads None h = λ n is. h n (sym same_day ∙ is.number, is.in_range)

-- ---- dates and texts

-- the parts of a date can be read off its text
written_date-same : (y m d y' m' d' : ℕ) → written_date y m d ≡ written_date y' m' d' → (y ≡ y') × (m ≡ m') × (d ≡ d')
written_date-same y m d y' m' d' e =
    let at : (k : ℕ) → get_or (written_date y m d) k 0 ≡ get_or (written_date y' m' d') k 0 = λ k. ap (λ t. get_or t k 0) e in
    (omega (arith, at 0, at 1, at 2, at 3), omega (arith, at 5, at 6), omega (arith, at 8, at 9))

-- what is read of the digits is read of the text
pub reads_date_text : (text : List ℕ) (year month month_day : ℕ) → text ≡ written_date year month month_day → (r : Option ℕ) → Reads (IsDateOf year month month_day) r → Reads (IsDateText text) r
reads_date_text text year month month_day e (Some day) h = record { year = year; month = month; month_day = month_day; is_date = h; written = e }
reads_date_text text year month month_day e None h = λ day t.
    let same = written_date-same t.year t.month t.month_day year month month_day (sym t.written ∙ e) in
    h day (rw (← same.0, ← same.1, ← same.2) t.is_date)

-- the digits of a text with a hyphen after the year and after the month
pub written_by_digits : (a b c d e f g h year month month_day : ℕ) → IsFourDigits (a ∷ b ∷ c ∷ d ∷ []) year → IsTwoDigits (e ∷ f ∷ []) month → IsTwoDigits (g ∷ h ∷ []) month_day → a ∷ b ∷ c ∷ d ∷ 45 ∷ e ∷ f ∷ 45 ∷ g ∷ h ∷ [] ≡ written_date year month month_day
written_by_digits a b c d e f g h year month month_day y m t = λ i. y.written i ++ codes "-" ++ m.written i ++ codes "-" ++ t.written i

-- the bytes of the digits of its parts are the text of a day
pub date_text-bytes : (day : ℕ) (year month month_day : List ℕ) → year ≡ four_digits (year_of day) → month ≡ two_digits (month_of day) → month_day ≡ two_digits (day_of_month day)
    → get_or year 0 0 ∷ get_or year 1 0 ∷ get_or year 2 0 ∷ get_or year 3 0 ∷ 45 ∷ get_or month 0 0 ∷ get_or month 1 0 ∷ 45 ∷ get_or month_day 0 0 ∷ get_or month_day 1 0 ∷ [] ≡ date_text day
unfolding date_text
date_text-bytes day year month month_day y m d = rw (y, m, d) refl

-- ---- the laws

-- the text of a day is its date text
pub date_text-is : (day : ℕ) → IsDay day → IsDateText (date_text day) day
unfolding date_text
date_text-is day h = record { year = year_of day; month = month_of day; month_day = day_of_month day; is_date = date_of_day day h; written = refl }

-- and the only one
pub date_text-only : (text : List ℕ) (day : ℕ) → IsDateText text day → text ≡ date_text day
unfolding date_text
date_text-only text day t =
    let same = parts_of_date t.year t.month t.month_day day t.is_date in
    t.written ∙ rw (same.0, same.1, same.2) refl

-- a text is that of one day
pub date_text-one_day : (text : List ℕ) (a b : ℕ) → IsDateText text a → IsDateText text b → a ≡ b
date_text-one_day text a b t u =
    let same = written_date-same t.year t.month t.month_day u.year u.month u.month_day (sym t.written ∙ u.written) in
    let is : IsDateOf u.year u.month u.month_day a = rw (← same.0, ← same.1, ← same.2) t.is_date in
    IsDateOf-one u.year u.month u.month_day a b is u.is_date
