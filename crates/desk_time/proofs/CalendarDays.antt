-- Each day that clocks can show has one date of the calendar: the year, the month and the day of the month in which it lies.
use Rattle.std.proofs.Common.{◌≡◌, ℕ, zero, suc, ◌+◌, ◌<◌, ◌≤◌, Bool, nat_le, true, false, if◌then◌else◌, refl, sym, ap, ◌∙◌, arith, inl, inr, pos}
use Rattle.std.proofs.lemmas.Bool.{leb-true, leb-false, cases_lt}
use Rattle.jiff_core.specs.Calendar.{day_count, days_from_civil, days_in_year, days_in_month}
use Rattle.jiff_core.specs.Date.{epoch_day}
use Rattle.jiff_core.specs.declared.civil.date.Date.{Date}
use Rattle.jiff_core.proofs.SignedLemmas.{signed_arith, one_part}
use Rattle.jiff_core.proofs.CalendarLemmas.{days_from_civil-day_count, day_count-epoch, day_count-day, day_count-day_of_year, day_count-next_year, day_count-next_month, day_count-later_year, day_count-last_of_year, days_in_year_bounds}
use Rattle.jiff_core.proofs.MarchLemmas.{day_count-early}
use Rattle.jiff_core.proofs.DateLemmas.{epoch_day_injective}
use Rattle.desk_time.specs.Limits.{last_day, IsDay}
use Rattle.desk_time.specs.Dates.{IsDateOf, day_number, last_begun, year_of, month_of, day_of_month}

-- ---- the last period that has begun

-- k is a period, from low to n, that has begun by a day, and the next of them has not
pub record IsLastBegun (first : ℕ → ℕ) (n day low k : ℕ) : Type 0 where
  pub from_low : low ≤ k
  pub within : k ≤ n
  pub begun : first k ≤ day
  pub next : k < n → day < first (k + 1)

last_begun_step : (first : ℕ → ℕ) (b : Bool) (n day low rest : ℕ) → nat_le (first (suc n)) day ≡ b → low ≤ suc n → first low ≤ day → (low ≤ n → IsLastBegun first n day low rest) → IsLastBegun first (suc n) day low (if b then suc n else rest)
last_begun_step first true n day low rest e within here below = record {
  from_low = within;
  within = omega arith;
  begun = leb-true (first (suc n)) day e;
  next = λ l. absurd (omega arith);
}
last_begun_step first false n day low rest e within here below =
    let late : day < first (suc n) = leb-false (first (suc n)) day e in
    let not_last : ¬ (low ≡ suc n) = λ same. let at : first low ≡ first (suc n) = ap first same in omega arith in
    let h = below (omega (arith, not_last)) in
    record {
      from_low = h.from_low;
      within = omega (arith, h.within);
      begun = h.begun;
      next = λ l. elim (cases_lt rest n) [
        | inl lt ↦ h.next lt
        | inr ge ↦ let at : first (rest + 1) ≡ first (suc n) = ap first (omega (arith, h.within)) in omega arith
      ];
    }

last_begun_is : (first : ℕ → ℕ) (n day low : ℕ) → 1 ≤ low → low ≤ n → first low ≤ day → IsLastBegun first n day low (last_begun first n day)
unfolding last_begun
last_begun_is first zero day low some within here = absurd (omega arith)
last_begun_is first (suc n) day low some within here =
    last_begun_step first (nat_le (first (suc n)) day) n day low (last_begun first n day) refl within here (λ le. last_begun_is first n day low some le here)

-- ---- day numbers and day counts

-- the days that the calendar counts before 1970-01-01
abbrev before_epoch : ℕ
before_epoch = 4_371_953

-- from 1970 on a day number is what is counted since then
day_number-day_count : (y m d : ℕ) → before_epoch ≤ day_count (pos y) m d → day_number y m d + before_epoch ≡ day_count (pos y) m d
day_number-day_count y m d h = omega (arith, signed_arith, days_from_civil-day_count (pos y) m d, one_part (days_from_civil (pos y) m d))

-- 2100-01-01 is the last day
day_count-last : day_count (pos 2100) 1 1 ≡ before_epoch + last_day
day_count-last = day_count-early (pos 2100) 12099 1 1 refl (omega arith) (omega arith) (omega arith)

-- a year from 1970 on begins on 1970-01-01 or later
day_count_after_epoch : (y : ℕ) → 1970 ≤ y → before_epoch ≤ day_count (pos y) 1 1
day_count_after_epoch y h = elim (cases_lt 1970 y) [
  | inl lt ↦ omega (arith, day_count-epoch, day_count-later_year (pos 1970) (pos y) (omega (arith, signed_arith)) (omega (arith, signed_arith)))
  | inr ge ↦ let same : y ≡ 1970 = omega arith in rw same (omega (arith, day_count-epoch))
]

first_of_year : (y : ℕ) → 1970 ≤ y → day_number y 1 1 + before_epoch ≡ day_count (pos y) 1 1
first_of_year y h = day_number-day_count y 1 1 (day_count_after_epoch y h)

first_of_month : (y m : ℕ) → 1970 ≤ y → 1 ≤ m → day_number y m 1 + before_epoch ≡ day_count (pos y) m 1
first_of_month y m h k = day_number-day_count y m 1 (omega (arith, day_count_after_epoch y h, day_count-day_of_year (pos y) m 1 (omega arith)))

next_year : (y : ℕ) → day_count (pos (y + 1)) 1 1 ≡ day_count (pos y) 1 1 + days_in_year (pos y)
next_year y = day_count-next_year (pos y) (pos (y + 1)) (omega (arith, signed_arith)) (omega (arith, signed_arith))

-- December has 31 days
december : (y : ℕ) → day_count (pos y) 12 1 + 31 ≡ day_count (pos y) 1 1 + days_in_year (pos y)
december y = omega (arith, day_count-last_of_year (pos y), day_count-day (pos y) 12 31 1 (omega arith) (omega arith))

-- ---- the date of a day

module _ (day : ℕ) (within : day ≤ last_day) where
  year_begun : IsLastBegun (λ year. day_number year 1 1) 2100 day 1970 (year_of day)
  unfolding year_of
  year_begun = last_begun_is (λ year. day_number year 1 1) 2100 day 1970 (omega arith) (omega arith) (omega (arith, day_count-epoch, first_of_year 1970 (omega arith)))

  since : 1970 ≤ year_of day
  since = year_begun.from_low

  year_ends : day + before_epoch < day_count (pos (year_of day)) 1 1 + days_in_year (pos (year_of day))
  year_ends = elim (cases_lt (year_of day) 2100) [
    | inl lt ↦ omega (arith, year_begun.next lt, first_of_year (year_of day + 1) (omega (arith, since)), next_year (year_of day))
    | inr ge ↦
        let last : day_count (pos (year_of day)) 1 1 ≡ day_count (pos 2100) 1 1 = ap (λ y. day_count (pos y) 1 1) (omega (arith, year_begun.within)) in
        omega (arith, within, last, day_count-last, days_in_year_bounds (pos (year_of day)))
  ]

  month_begun : IsLastBegun (λ month. day_number (year_of day) month 1) 12 day 1 (month_of day)
  unfolding month_of
  month_begun = last_begun_is (λ month. day_number (year_of day) month 1) 12 day 1 (omega arith) (omega arith) year_begun.begun

  first_day_of_month : day_number (year_of day) (month_of day) 1 + before_epoch ≡ day_count (pos (year_of day)) (month_of day) 1
  first_day_of_month = first_of_month (year_of day) (month_of day) since month_begun.from_low

  month_ends : day + before_epoch < day_count (pos (year_of day)) (month_of day) 1 + days_in_month (pos (year_of day)) (month_of day)
  month_ends = elim (cases_lt (month_of day) 12) [
    | inl lt ↦ omega (arith, month_begun.next lt, first_of_month (year_of day) (month_of day + 1) since (omega arith), day_count-next_month (pos (year_of day)) (month_of day) month_begun.from_low)
    | inr ge ↦
        let last : month_of day ≡ 12 = omega (arith, month_begun.within) in
        rw last (omega (arith, year_ends, december (year_of day)))
  ]

  month_begins : day_number (year_of day) (month_of day) 1 ≤ day
  month_begins = month_begun.begun

  day_in_month : (1 ≤ day_of_month day) × (day_of_month day ≤ days_in_month (pos (year_of day)) (month_of day))
  unfolding day_of_month
  day_in_month = (omega (arith, month_begins), omega (arith, month_begins, first_day_of_month, month_ends))

  place : day_number (year_of day) (month_of day) 1 + day_of_month day ≡ day + 1
  unfolding day_of_month
  place = omega (arith, month_begins)

  number : days_from_civil (pos (year_of day)) (month_of day) (day_of_month day) ≡ pos day
  number =
      let count : day_count (pos (year_of day)) (month_of day) (day_of_month day) + 1 ≡ day_count (pos (year_of day)) (month_of day) 1 + day_of_month day = day_count-day (pos (year_of day)) (month_of day) (day_of_month day) 1 day_in_month.0 (omega arith) in
      omega (arith, signed_arith, days_from_civil-day_count (pos (year_of day)) (month_of day) (day_of_month day), count, first_day_of_month, place)

-- each day has its date
pub date_of_day : (day : ℕ) → IsDay day → IsDateOf (year_of day) (month_of day) (day_of_month day) day
date_of_day day h = record {
  on_calendar = ((omega (arith, signed_arith), omega (arith, signed_arith, (year_begun day h.1).within)), ((month_begun day h.1).from_low, (month_begun day h.1).within), day_in_month day h.1);
  number = number day h.1;
  in_range = h;
}

-- the same as a value of the calendar's own type
abbrev as_date : (year month month_day day : ℕ) → IsDateOf year month month_day day → Date
as_date year month month_day day h = record { year = pos year; month = month; day = month_day; year_in = h.on_calendar.0; month_in = h.on_calendar.1; day_in = h.on_calendar.2 }

-- and no other
pub parts_of_day : (d : Date) (day : ℕ) → IsDay day → epoch_day d ≡ pos day → (d.year ≡ pos (year_of day)) × (d.month ≡ month_of day) × (d.day ≡ day_of_month day)
parts_of_day d day h e =
    let own = date_of_day day h in
    epoch_day_injective d (as_date (year_of day) (month_of day) (day_of_month day) day own) (e ∙ sym own.number)

pub parts_of_date : (year month month_day day : ℕ) → IsDateOf year month month_day day → (year ≡ year_of day) × (month ≡ month_of day) × (month_day ≡ day_of_month day)
parts_of_date year month month_day day h =
    let same = parts_of_day (as_date year month month_day day h) day h.in_range h.number in
    (omega (arith, signed_arith, same.0), same.1, same.2)
