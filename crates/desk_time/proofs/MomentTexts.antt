-- Each moment of the horizon has one text, and each moment text has one moment.
use Rattle.std.proofs.Common.{◌≡◌, ℕ, ◌+◌, ◌*◌, ◌/◌, ◌%◌, ◌<◌, ◌≤◌, List, [], ◌∷◌, ◌++◌, length, take, drop, get_or, Option, Some, None, refl, sym, ap, subst, ◌∙◌, arith, rules, append_assoc, ◌-◌, IsAscii}
use Rattle.std.proofs.lemmas.Str.{IsAscii-append}
use Rattle.std.proofs.lemmas.List.{length-append, length-drop, take-append-drop, get_or-drop}
use Rattle.std.proofs.lemmas.Slice.Eq.{text_from_reads}
use Rattle.std.proofs.Math.Seq.{take-append_seam, drop-append_seam}
use Rattle.std.specs.Prelude.{codes}
use Rattle.desk_time.specs.Limits.{IsMoment, minutes_a_day}
use Rattle.desk_time.specs.Reads.{Reads}
use Rattle.desk_time.specs.Dates.{IsDateText, date_text}
use Rattle.desk_time.specs.Moments.{IsClockText, IsMomentText, written_time, clock_text, moment_text}
use Rattle.desk_time.proofs.DateTexts.{date_text-is, date_text-only, date_text-one_day}

-- ---- times of day

clock_text-is : (minute : ℕ) → minute < minutes_a_day → IsClockText (clock_text minute) minute
unfolding clock_text
clock_text-is minute h = record { hour = minute / 60; minute = minute % 60; hour_in_day = omega arith; minute_in_hour = omega arith; written = refl; number = omega arith }

clock_text-only : (text : List ℕ) (minute : ℕ) → IsClockText text minute → text ≡ clock_text minute
unfolding clock_text
clock_text-only text minute t =
    let hour : t.hour ≡ minute / 60 = omega (arith, t.number, t.minute_in_hour) in
    let rest : t.minute ≡ minute % 60 = omega (arith, t.number, t.minute_in_hour) in
    t.written ∙ rw (hour, rest) refl

clock_text-one_minute : (text : List ℕ) (a b : ℕ) → IsClockText text a → IsClockText text b → a ≡ b
clock_text-one_minute text a b t u =
    let at : (k : ℕ) → get_or (written_time t.hour t.minute) k 0 ≡ get_or (written_time u.hour u.minute) k 0 = λ k. ap (λ x. get_or x k 0) (sym t.written ∙ u.written) in
    omega (arith, t.number, u.number, at 0, at 1, at 3, at 4)

IsClockText-in_day : (text : List ℕ) (minute : ℕ) → IsClockText text minute → minute < minutes_a_day
IsClockText-in_day text minute t = omega (arith, t.number, t.hour_in_day, t.minute_in_hour)

length-IsClockText : (text : List ℕ) (minute : ℕ) → IsClockText text minute → length text ≡ 5
length-IsClockText text minute t = ap length t.written

-- ---- what stands before and after the `T`

-- two lists are cut in one place where what follows it has one length
seam : (xs ys xs' ys' : List ℕ) → length ys ≡ length ys' → xs ++ ys ≡ xs' ++ ys' → (xs ≡ xs') × (ys ≡ ys')
seam xs ys xs' ys' h e =
    let same : length xs ≡ length xs' = omega (arith, length-append xs ys, length-append xs' ys', ap length e, h) in (
      sym (take-append_seam xs ys) ∙ ap (take (length xs)) e ∙ ap (λ k. take k (xs' ++ ys')) same ∙ take-append_seam xs' ys',
      sym (drop-append_seam xs ys) ∙ ap (drop (length xs)) e ∙ ap (λ k. drop k (xs' ++ ys')) same ∙ drop-append_seam xs' ys',
    )

-- a text is cut in one way into a date and a time of day of five bytes
cut_one : (date clock date' clock' : List ℕ) → length clock ≡ 5 → length clock' ≡ 5 → date ++ codes "T" ++ clock ++ codes "Z" ≡ date' ++ codes "T" ++ clock' ++ codes "Z" → (date ≡ date') × (clock ≡ clock')
cut_one date clock date' clock' five five' e =
    let before = seam (date ++ codes "T" ++ clock) (codes "Z") (date' ++ codes "T" ++ clock') (codes "Z") refl e in
    let parts = seam (date ++ codes "T") clock (date' ++ codes "T") clock' (five ∙ sym five') before.0 in
    ((seam date (codes "T") date' (codes "T") refl parts.0).0, parts.1)

-- the last seven bytes of a text, among them the `T`, the colon and the `Z`
pub cut_at_the_end : (s : List ℕ) → 7 ≤ length s → get_or s (length s - 7) 0 ≡ 84 → get_or s (length s - 4) 0 ≡ 58 → get_or s (length s - 1) 0 ≡ 90
    → s ≡ take (length s - 7) s ++ codes "T" ++ (get_or s (length s - 6) 0 ∷ get_or s (length s - 5) 0 ∷ 58 ∷ get_or s (length s - 3) 0 ∷ get_or s (length s - 2) 0 ∷ []) ++ codes "Z"
cut_at_the_end s h t colon z =
    sym (take-append-drop k s) ∙ ap (λ r. take k s ++ r) last_seven ∙ sym (simp append_assoc)
  where
    k : ℕ
    k = length s - 7

    at : (j i x : ℕ) → k + j ≡ i → get_or s i 0 ≡ x → get_or (drop k s) j 0 ≡ x
    at j i x e f = get_or-drop k s j 0 ∙ ap (λ n. get_or s n 0) e ∙ f

    last_seven : drop k s ≡ 84 ∷ get_or s (length s - 6) 0 ∷ get_or s (length s - 5) 0 ∷ 58 ∷ get_or s (length s - 3) 0 ∷ get_or s (length s - 2) 0 ∷ 90 ∷ []
    last_seven = text_from_reads (drop k s) _ (omega (arith, length-drop k s)) (
      at 0 (length s - 7) _ (omega arith) t,
      (
        at 1 (length s - 6) _ (omega arith) refl,
        (
          at 2 (length s - 5) _ (omega arith) refl,
          (
            at 3 (length s - 4) _ (omega arith) colon,
            (at 4 (length s - 3) _ (omega arith) refl, (at 5 (length s - 2) _ (omega arith) refl, (at 6 (length s - 1) _ (omega arith) z, tt))),
          ),
        ),
      ),
    )

-- ---- reading

module _ (text date clock : List ℕ) (five : length clock ≡ 5) (cut : text ≡ date ++ codes "T" ++ clock ++ codes "Z") where
  cut_so : (m : ℕ) → (t : IsMomentText text m) → (t.date ≡ date) × (t.clock ≡ clock)
  cut_so m t = cut_one t.date t.clock date clock (length-IsClockText t.clock t.minute t.is_clock) five (sym t.written ∙ cut)

  -- no moment without a date
  pub reads_no_date : ((day : ℕ) → ¬ (IsDateText date day)) → Reads (IsMomentText text) None
  reads_no_date none m t = none t.day (subst (λ x. IsDateText x t.day) (cut_so m t).0 t.is_date)

  -- nor without a time of day
  pub reads_no_clock : ((minute : ℕ) → ¬ (IsClockText clock minute)) → Reads (IsMomentText text) None
  reads_no_clock none m t = none t.minute (subst (λ x. IsClockText x t.minute) (cut_so m t).1 t.is_clock)

  -- with both, the text has the moment that they make
  pub reads_moment : (day minute : ℕ) → IsDateText date day → IsClockText clock minute → (r : Option ℕ) → Reads (λ m. (m ≡ day * minutes_a_day + minute) × IsMoment m) r → Reads (IsMomentText text) r
  reads_moment day minute is_date is_clock (Some m) h = record { date = date; clock = clock; day = day; minute = minute; is_date = is_date; is_clock = is_clock; written = cut; number = h.0; in_horizon = h.1 }
  reads_moment day minute is_date is_clock None h = λ m t.
      let same_day = date_text-one_day date t.day day (subst (λ x. IsDateText x t.day) (cut_so m t).0 t.is_date) is_date in
      let same_minute = clock_text-one_minute clock t.minute minute (subst (λ x. IsClockText x t.minute) (cut_so m t).1 t.is_clock) is_clock in
      h m (omega (arith, t.number, same_day, same_minute), t.in_horizon)

-- ---- writing

-- the bytes of a date and of a time of day are the text of a moment
pub moment_text-bytes : (minute : ℕ) (date clock : List ℕ) → date ≡ date_text (minute / minutes_a_day) → clock ≡ clock_text (minute % minutes_a_day)
    → get_or date 0 0 ∷ get_or date 1 0 ∷ get_or date 2 0 ∷ get_or date 3 0 ∷ get_or date 4 0 ∷ get_or date 5 0 ∷ get_or date 6 0 ∷ get_or date 7 0 ∷ get_or date 8 0 ∷ get_or date 9 0 ∷ 84 ∷ get_or clock 0 0 ∷ get_or clock 1 0 ∷ get_or clock 2 0 ∷ get_or clock 3 0 ∷ get_or clock 4 0 ∷ 90 ∷ [] ≡ moment_text minute
unfolding date_text clock_text moment_text
moment_text-bytes minute date clock d c = rw (d, c) refl

-- both are ASCII, and so is the text
pub moment_text-ascii : (minute : ℕ) → IsAscii (date_text (minute / minutes_a_day)) → IsAscii (clock_text (minute % minutes_a_day)) → IsAscii (moment_text minute)
unfolding moment_text
moment_text-ascii minute date clock = IsAscii-append _ (codes "Z") (IsAscii-append _ (clock_text (minute % minutes_a_day)) (IsAscii-append (date_text (minute / minutes_a_day)) (codes "T") date (search rules)) clock) (search rules)

-- ---- the laws

-- the text of a moment is its moment text
pub moment_text-is : (minute : ℕ) → IsMoment minute → IsMomentText (moment_text minute) minute
unfolding moment_text
moment_text-is minute h = record {
  date = date_text (minute / minutes_a_day);
  clock = clock_text (minute % minutes_a_day);
  day = minute / minutes_a_day;
  minute = minute % minutes_a_day;
  is_date = date_text-is (minute / minutes_a_day) (omega arith, omega arith);
  is_clock = clock_text-is (minute % minutes_a_day) (omega arith);
  written = refl;
  number = omega arith;
  in_horizon = h;
}

-- and the only one
pub moment_text-only : (text : List ℕ) (minute : ℕ) → IsMomentText text minute → text ≡ moment_text minute
unfolding moment_text
moment_text-only text minute t =
    let within = IsClockText-in_day t.clock t.minute t.is_clock in
    let day : t.day ≡ minute / minutes_a_day = omega (arith, t.number, within) in
    let rest : t.minute ≡ minute % minutes_a_day = omega (arith, t.number, within) in
    t.written ∙ rw (date_text-only t.date t.day t.is_date, clock_text-only t.clock t.minute t.is_clock, day, rest) refl

-- a text is that of one moment
pub moment_text-one_moment : (text : List ℕ) (a b : ℕ) → IsMomentText text a → IsMomentText text b → a ≡ b
moment_text-one_moment text a b t u =
    let parts = cut_one t.date t.clock u.date u.clock (length-IsClockText t.clock t.minute t.is_clock) (length-IsClockText u.clock u.minute u.is_clock) (sym t.written ∙ u.written) in
    let day = date_text-one_day u.date t.day u.day (subst (λ x. IsDateText x t.day) parts.0 t.is_date) u.is_date in
    let minute = clock_text-one_minute u.clock t.minute u.minute (subst (λ x. IsClockText x t.minute) parts.1 t.is_clock) u.is_clock in
    omega (arith, t.number, u.number, day, minute)
