-- The texts of days and of moments are ASCII, and are read as them.
use Rattle.std.proofs.Common.{◌≡◌, ℕ, zero, suc, ◌<◌, ◌/◌, ◌%◌, pos, List, ◌++◌, Some, IsAscii, IsUtf8, sym, subst, arith}
use Rattle.std.specs.Prelude.{codes}
use Rattle.std.proofs.lemmas.Str.{IsAscii-append, IsUtf8-from_ascii}
use Rattle.jiff_core.proofs.CalendarLemmas.{days_in_month_bounds}
use Rattle.jiff_core.proofs.SignedLemmas.{signed_arith}
use Rattle.desk_time.specs.Limits.{IsDay, IsMoment, minutes_a_day}
use Rattle.desk_time.specs.Digits.{two_digits, four_digits}
use Rattle.desk_time.specs.Dates.{IsDateText, written_date, date_text}
use Rattle.desk_time.specs.Moments.{clock_text, moment_text}
use Rattle.desk_time.proofs.DateTexts.{date_text-is, date_text-only}
use Rattle.desk_time.proofs.MomentTexts.{moment_text-is, moment_text-only, moment_text-ascii}
use Rattle.desk_json.specs.MomentReading.{moment_of, day_of}
use Rattle.desk_json.proofs.MomentReadings.{is_moment_of}
use Rattle.desk_json.proofs.DayReadings.{is_day_of}

-- ---- ASCII

two_ascii : (n : ℕ) → n < 100 → IsAscii (two_digits n)
two_ascii n h zero = omega (arith, h)
two_ascii n h (suc zero) = omega (arith, h)
two_ascii n h (suc (suc k)) = omega arith

dash_ascii : IsAscii (codes "-")
dash_ascii zero = omega arith
dash_ascii (suc k) = omega arith

colon_ascii : IsAscii (codes ":")
colon_ascii zero = omega arith
colon_ascii (suc k) = omega arith

four_ascii : (n : ℕ) → n < 10000 → IsAscii (four_digits n)
four_ascii n h = IsAscii-append (two_digits (n / 100)) (two_digits (n % 100)) (two_ascii (n / 100) (omega (arith, h))) (two_ascii (n % 100) (omega arith))

written_ascii : (year month day : ℕ) → year < 10000 → month < 100 → day < 100 → IsAscii (written_date year month day)
written_ascii year month day y m d =
    IsAscii-append (four_digits year) (codes "-" ++ two_digits month ++ codes "-" ++ two_digits day) (four_ascii year y)
    (IsAscii-append (codes "-") (two_digits month ++ codes "-" ++ two_digits day) dash_ascii
    (IsAscii-append (two_digits month) (codes "-" ++ two_digits day) (two_ascii month m) (IsAscii-append (codes "-") (two_digits day) dash_ascii (two_ascii day d))))

text_ascii : (text : List ℕ) (day : ℕ) → IsDateText text day → IsAscii text
text_ascii text day t =
    let civil = t.is_date.on_calendar in
    let year : t.year < 10000 = omega (arith, signed_arith, civil.0) in
    let long : t.month_day < 100 = omega (arith, civil.2, days_in_month_bounds (pos t.year) t.month) in
    subst IsAscii (sym t.written) (written_ascii t.year t.month t.month_day year (omega (arith, civil.1)) long)

date_ascii : (day : ℕ) → IsDay day → IsAscii (date_text day)
date_ascii day h = text_ascii (date_text day) day (date_text-is day h)

clock_ascii : (minute : ℕ) → minute < minutes_a_day → IsAscii (clock_text minute)
unfolding clock_text
clock_ascii minute h =
    IsAscii-append (two_digits (minute / 60)) (codes ":" ++ two_digits (minute % 60)) (two_ascii (minute / 60) (omega (arith, h)))
    (IsAscii-append (codes ":") (two_digits (minute % 60)) colon_ascii (two_ascii (minute % 60) (omega arith)))

pub date_utf8 : (day : ℕ) → IsDay day → IsUtf8 (date_text day)
date_utf8 day h = IsUtf8-from_ascii (date_text day) (date_ascii day h)

pub moment_utf8 : (m : ℕ) → IsMoment m → IsUtf8 (moment_text m)
moment_utf8 m h =
    IsUtf8-from_ascii (moment_text m)
    (moment_text-ascii m (date_ascii (m / minutes_a_day) (omega (arith, h), omega (arith, h))) (clock_ascii (m % minutes_a_day) (omega arith)))

-- ---- readings

pub day_back : (day : ℕ) → IsDay day → day_of (date_text day) ≡ Some day
day_back day h = sym (is_day_of date_text-is date_text-only (date_text day) (Some day) (date_text-is day h))

pub moment_back : (m : ℕ) → IsMoment m → moment_of (moment_text m) ≡ Some m
moment_back m h = sym (is_moment_of moment_text-is moment_text-only (moment_text m) (Some m) (moment_text-is m h))
