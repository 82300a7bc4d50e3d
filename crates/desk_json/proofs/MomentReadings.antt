-- The minute that a text names is the one that the reader of moments finds.
use Rattle.std.proofs.Common.{◌≡◌, ℕ, ◌+◌, ◌-◌, ◌*◌, ◌/◌, ◌%◌, ◌≤◌, nat_le, Bool, true, false, ◌&&◌, List, ◌++◌, codes, Option, Some, None, bytes_eq, unsigned_abs, if◌then◌else◌, refl, sym, ap, subst, ◌∙◌, true≢false, arith}
use Rattle.std.proofs.lemmas.Bool.{leb-true}
use Rattle.std.proofs.lemmas.Bool.Decides.{nat_tests}
use Rattle.std.proofs.lemmas.Slice.Eq.{bytes_eq-Decides}
use Rattle.desk_time.specs.Limits.{first_minute, end_of_minutes, minutes_a_day, IsMoment}
use Rattle.desk_time.specs.Reads.{Reads}
use Rattle.desk_time.specs.Dates.{day_number, written_date}
use Rattle.desk_time.specs.Moments.{IsMomentText, written_time, moment_text}
use Rattle.desk_json.specs.MomentReading.{two_at, four_at, minute_named, is_text_of, moment_of}

-- ---- the minute that the digits give

pub of_two : (n : ℕ) → (48 + n / 10 - 48) * 10 + (48 + n % 10 - 48) ≡ n
of_two n = omega arith

abbrev written : ℕ → ℕ → ℕ → ℕ → ℕ → List ℕ
written year month day hour minute = written_date year month day ++ codes "T" ++ written_time hour minute ++ codes "Z"

pub of_four : (n : ℕ) → ((48 + n / 100 / 10 - 48) * 10 + (48 + n / 100 % 10 - 48)) * 100 + ((48 + n % 100 / 10 - 48) * 10 + (48 + n % 100 % 10 - 48)) ≡ n
of_four n = rw (of_two (n / 100), of_two (n % 100)) (omega arith)

minute_of_digits : (year month day hour minute : ℕ) → minute_named (written year month day hour minute) ≡ day_number year month day * minutes_a_day + (hour * 60 + minute)
unfolding minute_named
minute_of_digits year month day hour minute =
    let years : four_at (written year month day hour minute) 0 ≡ year = of_four year in
    let months : two_at (written year month day hour minute) 5 ≡ month = of_two month in
    let days : two_at (written year month day hour minute) 8 ≡ day = of_two day in
    let hours : two_at (written year month day hour minute) 11 ≡ hour = of_two hour in
    let minutes : two_at (written year month day hour minute) 14 ≡ minute = of_two minute in
    ap (λ x. day_number x (two_at (written year month day hour minute) 5) (two_at (written year month day hour minute) 8) * minutes_a_day + (two_at (written year month day hour minute) 11 * 60 + two_at (written year month day hour minute) 14)) years
    ∙ ap (λ x. day_number year x (two_at (written year month day hour minute) 8) * minutes_a_day + (two_at (written year month day hour minute) 11 * 60 + two_at (written year month day hour minute) 14)) months
    ∙ ap (λ x. day_number year month x * minutes_a_day + (two_at (written year month day hour minute) 11 * 60 + two_at (written year month day hour minute) 14)) days
    ∙ ap (λ x. day_number year month day * minutes_a_day + (x * 60 + two_at (written year month day hour minute) 14)) hours
    ∙ ap (λ x. day_number year month day * minutes_a_day + (hour * 60 + x)) minutes

sum_of : (day minute hour part a : ℕ) → a ≡ day → minute ≡ hour * 60 + part → a * minutes_a_day + (hour * 60 + part) ≡ day * minutes_a_day + minute
sum_of day minute hour part a e f = omega arith

named_is : (text : List ℕ) (m : ℕ) → IsMomentText text m → minute_named text ≡ m
named_is text m h =
    let d = h.is_date in
    let k = h.is_clock in
    let whole : text ≡ written d.year d.month d.month_day k.hour k.minute =
    h.written ∙ ap (λ t. t ++ codes "T" ++ h.clock ++ codes "Z") d.written ∙ ap (λ t. written_date d.year d.month d.month_day ++ codes "T" ++ t ++ codes "Z") k.written in
    let day : day_number d.year d.month d.month_day ≡ h.day = ap unsigned_abs d.is_date.number in
    ap minute_named whole ∙ minute_of_digits d.year d.month d.month_day k.hour k.minute
    ∙ sum_of h.day h.minute k.hour k.minute (day_number d.year d.month d.month_day) day k.number ∙ sym h.number

-- ---- the test of its text

pub both_true : (a b c : Bool) → (a && b && c) ≡ true → (a ≡ true) × (b ≡ true) × (c ≡ true)
both_true true true true e = (refl, refl, refl)
both_true true true false e = absurd (true≢false (sym e))
both_true true false c e = absurd (true≢false (sym e))
both_true false b c e = absurd (true≢false (sym e))

pub none_named : (b : Bool) (n : ℕ) → ¬ (b ≡ true) → None ≡ (if b then Some n else None)
none_named true n differs = absurd (differs refl)
none_named false n _ = refl

module _ (reads : (m : ℕ) → IsMoment m → IsMomentText (moment_text m) m) (only : (text : List ℕ) (m : ℕ) → IsMomentText text m → text ≡ moment_text m) where
  is_text : (text : List ℕ) (m : ℕ) → is_text_of text m ≡ true → IsMomentText text m
  is_text text m e =
      let parts = both_true (nat_le first_minute m) (nat_le m end_of_minutes) (bytes_eq (moment_text m) text) e in
      let same : moment_text m ≡ text = (bytes_eq-Decides (moment_text m) text).0 parts.2 in
      subst (λ t. IsMomentText t m) same (reads m (leb-true first_minute m parts.0, leb-true m end_of_minutes parts.1))

  tests_true : (text : List ℕ) (m : ℕ) → IsMomentText text m → is_text_of text m ≡ true
  tests_true text m h =
      let same : bytes_eq (moment_text m) text ≡ true = (bytes_eq-Decides (moment_text m) text).1 (sym (only text m h)) in
      let low : nat_le first_minute m ≡ true = (let le : first_minute ≤ m = h.in_horizon.0 in grind (arith, nat_tests)) in
      let high : nat_le m end_of_minutes ≡ true = (let le : m ≤ end_of_minutes = h.in_horizon.1 in grind (arith, nat_tests)) in
      rw (low, high, same) refl

  pub is_moment_of : (text : List ℕ) (r : Option ℕ) → Reads (IsMomentText text) r → r ≡ moment_of text
  unfolding moment_of
  is_moment_of text (Some m) h =
      let named : minute_named text ≡ m = named_is text m h in
      rw (named, tests_true text m h) refl
  is_moment_of text None h = none_named (is_text_of text (minute_named text)) (minute_named text) (λ e. h (minute_named text) (is_text text (minute_named text) e))
