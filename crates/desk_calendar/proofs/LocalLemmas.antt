-- What a calendar gives, by the rows of its day and weekday.
use Rattle.std.proofs.Common.{◌≡◌, ℕ, true, false, cond, ◌&&◌, ◌==◌, List, [], ◌∷◌, refl, sym, ap, ◌∙◌, length, arith}
use Rattle.std.proofs.lemmas.Bool.{false≢true}
use Rattle.std.proofs.lemmas.Bool.Decides.{nat_tests}
use Rattle.std.specs.Prelude.{filter, find}
use Rattle.std.specs.List.{list_any, AllByRecursion}
use Rattle.std.specs.Option.{option_map_or}
use Rattle.desk_base.specs.declared.rows.tables.Tables.{Tables}
use Rattle.desk_base.specs.declared.rows.calendars.WorkRow.{WorkRow}
use Rattle.desk_base.specs.declared.rows.calendars.BreakRow.{BreakRow}
use Rattle.desk_base.specs.declared.rows.calendars.DayRow.{DayRow}
use Rattle.desk_base.specs.meaning.Time.{covers, weekday_of}
use Rattle.desk_base.specs.meaning.Capacity.{calendar_capacity}
use Rattle.desk_calendar.specs.Locals.{day_given, week_given}
use Rattle.desk_base.proofs.lists.Bounds.{find_still, any_still, any_within-two, find_within-two, any_row, some_row}

pub day_still : (days : List DayRow) (m k : ℕ) → AllByRecursion (λ (d : DayRow). covers d.from d.to k ≡ covers d.from d.to m) days → day_given days k ≡ day_given days m
day_still days m k h = ap (λ o. option_map_or (λ (d : DayRow). d.capacity) o 0) (find_still (λ (d : DayRow). covers d.from d.to k) (λ (d : DayRow). covers d.from d.to m) days h)

pub week_still : (breaks : List BreakRow) (works : List WorkRow) (m k : ℕ) → AllByRecursion (λ (b : BreakRow). covers b.from b.to k ≡ covers b.from b.to m) breaks → AllByRecursion (λ (w : WorkRow). covers w.from w.to k ≡ covers w.from w.to m) works → week_given breaks works k ≡ week_given breaks works m
week_still breaks works m k h i =
    ap (λ b. cond b 0 (option_map_or (λ (w : WorkRow). w.capacity) (find (λ (w : WorkRow). covers w.from w.to k) works) 0)) (any_still (λ (b : BreakRow). covers b.from b.to k) (λ (b : BreakRow). covers b.from b.to m) breaks h)
    ∙ ap (λ o. cond (list_any (λ (b : BreakRow). covers b.from b.to m) breaks) 0 (option_map_or (λ (w : WorkRow). w.capacity) o 0)) (find_still (λ (w : WorkRow). covers w.from w.to k) (λ (w : WorkRow). covers w.from w.to m) works i)

module _ (t : Tables) (c day : ℕ) where
  abbrev pub days_on : List DayRow
  days_on = filter (λ (d : DayRow). (d.calendar == c) && (d.day == day)) t.days

  abbrev pub breaks_on : List BreakRow
  breaks_on = filter (λ (b : BreakRow). (b.calendar == c) && (b.weekday == weekday_of day)) t.breaks

  abbrev pub works_on : List WorkRow
  works_on = filter (λ (w : WorkRow). (w.calendar == c) && (w.weekday == weekday_of day)) t.works

  -- the capacity, by these rows
  by_rows : (m : ℕ) → calendar_capacity t c (record { day = day; minute = m }) ≡ cond (some_row days_on) (day_given days_on m) (week_given breaks_on works_on m)
  unfolding calendar_capacity
  by_rows m =
      let has = any_row (λ (d : DayRow). (d.calendar == c) && (d.day == day)) t.days in
      let days = find_within-two (λ (d : DayRow). d.calendar == c) (λ (d : DayRow). d.day == day) (λ (d : DayRow). covers d.from d.to m) t.days in
      let breaks = any_within-two (λ (b : BreakRow). b.calendar == c) (λ (b : BreakRow). b.weekday == weekday_of day) (λ (b : BreakRow). covers b.from b.to m) t.breaks in
      let works = find_within-two (λ (w : WorkRow). w.calendar == c) (λ (w : WorkRow). w.weekday == weekday_of day) (λ (w : WorkRow). covers w.from w.to m) t.works in
      ap (λ b. cond b (option_map_or (λ (d : DayRow). d.capacity) (find (λ (d : DayRow). (d.calendar == c) && (d.day == day) && covers d.from d.to m) t.days) 0) (cond (list_any (λ (b : BreakRow). (b.calendar == c) && (b.weekday == weekday_of day) && covers b.from b.to m) t.breaks) 0 (option_map_or (λ (w : WorkRow). w.capacity) (find (λ (w : WorkRow). (w.calendar == c) && (w.weekday == weekday_of day) && covers w.from w.to m) t.works) 0))) has
      ∙ ap (λ o. cond (some_row days_on) (option_map_or (λ (d : DayRow). d.capacity) o 0) (cond (list_any (λ (b : BreakRow). (b.calendar == c) && (b.weekday == weekday_of day) && covers b.from b.to m) t.breaks) 0 (option_map_or (λ (w : WorkRow). w.capacity) (find (λ (w : WorkRow). (w.calendar == c) && (w.weekday == weekday_of day) && covers w.from w.to m) t.works) 0))) days
      ∙ ap (λ b. cond (some_row days_on) (day_given days_on m) (cond b 0 (option_map_or (λ (w : WorkRow). w.capacity) (find (λ (w : WorkRow). (w.calendar == c) && (w.weekday == weekday_of day) && covers w.from w.to m) t.works) 0))) breaks
      ∙ ap (λ o. cond (some_row days_on) (day_given days_on m) (cond (list_any (λ (b : BreakRow). covers b.from b.to m) breaks_on) 0 (option_map_or (λ (w : WorkRow). w.capacity) o 0))) works

  some_length : (days : List DayRow) → (length days == 0) ≡ false → some_row days ≡ true
  some_length [] e = cc
  some_length (d ∷ ds) e = refl

  no_length : (days : List DayRow) → (length days == 0) ≡ true → some_row days ≡ false
  no_length [] e = refl
  no_length (d ∷ ds) e = let f : (length (d ∷ ds) == 0) ≡ false = grind (arith, nat_tests) in absurd (false≢true (sym f ∙ e))

  pub by_days : (days : List DayRow) (m : ℕ) → days ≡ days_on → (length days == 0) ≡ false → calendar_capacity t c (record { day = day; minute = m }) ≡ day_given days m
  by_days days m e f = by_rows m ∙ ap (λ b. cond b (day_given days_on m) (week_given breaks_on works_on m)) (ap some_row (sym e) ∙ some_length days f) ∙ ap (λ l. day_given l m) (sym e)

  pub by_week : (days : List DayRow) (breaks : List BreakRow) (works : List WorkRow) (m : ℕ) → days ≡ days_on → (length days == 0) ≡ true → breaks ≡ breaks_on → works ≡ works_on → calendar_capacity t c (record { day = day; minute = m }) ≡ week_given breaks works m
  by_week days breaks works m e f g h = by_rows m ∙ ap (λ b. cond b (day_given days_on m) (week_given breaks_on works_on m)) (ap some_row (sym e) ∙ no_length days f) ∙ ap (λ l. week_given l works_on m) (sym g) ∙ ap (λ l. week_given breaks l m) (sym h)
