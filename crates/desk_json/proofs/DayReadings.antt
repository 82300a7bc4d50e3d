-- The day that a text names is the one that the reader of dates finds.
use Rattle.std.proofs.Common.{◌≡◌, ℕ, ◌≤◌, nat_le, true, List, Option, Some, None, bytes_eq, unsigned_abs, refl, sym, ap, subst, ◌∙◌, arith}
use Rattle.std.proofs.lemmas.Bool.{leb-true}
use Rattle.std.proofs.lemmas.Bool.Decides.{nat_tests}
use Rattle.std.proofs.lemmas.Slice.Eq.{bytes_eq-Decides}
use Rattle.desk_time.specs.Limits.{first_day, last_day, IsDay}
use Rattle.desk_time.specs.Reads.{Reads}
use Rattle.desk_time.specs.Dates.{IsDateText, day_number, written_date, date_text}
use Rattle.desk_json.specs.MomentReading.{two_at, four_at, day_named, is_text_of_day, day_of}
use Rattle.desk_json.proofs.MomentReadings.{of_two, of_four, both_true, none_named}

-- ---- the day that the digits give

day_of_digits : (year month day : ℕ) → day_named (written_date year month day) ≡ day_number year month day
unfolding day_named
day_of_digits year month day =
    let years : four_at (written_date year month day) 0 ≡ year = of_four year in
    let months : two_at (written_date year month day) 5 ≡ month = of_two month in
    let days : two_at (written_date year month day) 8 ≡ day = of_two day in
    ap (λ x. day_number x (two_at (written_date year month day) 5) (two_at (written_date year month day) 8)) years
    ∙ ap (λ x. day_number year x (two_at (written_date year month day) 8)) months
    ∙ ap (λ x. day_number year month x) days

named_is : (text : List ℕ) (d : ℕ) → IsDateText text d → day_named text ≡ d
named_is text d h =
    let day : day_number h.year h.month h.month_day ≡ d = ap unsigned_abs h.is_date.number in
    ap day_named h.written ∙ day_of_digits h.year h.month h.month_day ∙ day

-- ---- the test of its text

module _ (reads : (d : ℕ) → IsDay d → IsDateText (date_text d) d) (only : (text : List ℕ) (d : ℕ) → IsDateText text d → text ≡ date_text d) where
  is_text : (text : List ℕ) (d : ℕ) → is_text_of_day text d ≡ true → IsDateText text d
  is_text text d e =
      let parts = both_true (nat_le first_day d) (nat_le d last_day) (bytes_eq (date_text d) text) e in
      let same : date_text d ≡ text = (bytes_eq-Decides (date_text d) text).0 parts.2 in
      subst (λ t. IsDateText t d) same (reads d (leb-true first_day d parts.0, leb-true d last_day parts.1))

  tests_true : (text : List ℕ) (d : ℕ) → IsDateText text d → is_text_of_day text d ≡ true
  tests_true text d h =
      let same : bytes_eq (date_text d) text ≡ true = (bytes_eq-Decides (date_text d) text).1 (sym (only text d h)) in
      let low : nat_le first_day d ≡ true = (let le : first_day ≤ d = h.is_date.in_range.0 in grind (arith, nat_tests)) in
      let high : nat_le d last_day ≡ true = (let le : d ≤ last_day = h.is_date.in_range.1 in grind (arith, nat_tests)) in
      rw (low, high, same) refl

  pub is_day_of : (text : List ℕ) (r : Option ℕ) → Reads (IsDateText text) r → r ≡ day_of text
  unfolding day_of
  is_day_of text (Some d) h =
      let named : day_named text ≡ d = named_is text d h in
      rw (named, tests_true text d h) refl
  is_day_of text None h = none_named (is_text_of_day text (day_named text)) (day_named text) (λ e. h (day_named text) (is_text text (day_named text) e))
