-- The first place at which bookings are above the room, with a booking more.
use Rattle.std.proofs.Common.{◌≡◌, ℕ, ◌≤◌, ◌<◌, Bool, true, false, cond, List, [], ◌∷◌, ◌++◌, Option, Some, None, ◌⊎◌, inl, inr, refl, sym, subst, arith}
use Rattle.std.proofs.lemmas.Bool.{cases_lt}
use Rattle.std.proofs.lemmas.Bool.Decides.{nat_tests}
use Rattle.std.specs.Prelude.{IfSome}
use Rattle.desk_base.specs.declared.search.results.Ask.{Ask}
use Rattle.desk_base.specs.declared.rows.tables.Tables.{Tables}
use Rattle.desk_base.specs.rules.Limits.{first_minute, end_of_minutes}
use Rattle.desk_base.specs.meaning.Time.{IsMinute}
use Rattle.desk_base.specs.meaning.Load.{weight, room, IsWithinRoom}
use Rattle.desk_load.specs.declared.view.places.Place.{Place}
use Rattle.desk_load.specs.declared.view.probe.Probe.{Probe}
use Rattle.desk_load.specs.declared.view.probe.Probe.TheVariants.{Free, Short}
use Rattle.desk_load.specs.Views.{ViewParts, HasRoomAt, IsFree, IsProbe, IsShortOn, standing}
use Rattle.desk_load.specs.Clashes.{is_before, earlier, after_probe, IsOver, IsFirstOver}
use Rattle.desk_load.proofs.Weighed.{weight-append}
use Rattle.desk_load.proofs.Whole.{free_fits, within_with}

-- ---- which of two places comes first

pub before_is : (p q : Place) → is_before p q ≡ true → (p.minute < q.minute) ⊎ ((p.minute ≡ q.minute) × (p.resource < q.resource))
before_is p q e = elim (cases_lt p.minute q.minute) [ inl l ↦ inl l | inr l ↦ inr (by l) ]
  where
    by : q.minute ≤ p.minute → (p.minute ≡ q.minute) × (p.resource < q.resource)
    by l = (let x : p.minute ≡ q.minute = grind (arith, nat_tests) in x, let y : p.resource < q.resource = grind (arith, nat_tests) in y)

pub not_before : (p q : Place) → is_before p q ≡ false → (q.minute < p.minute) ⊎ ((q.minute ≡ p.minute) × (q.resource ≤ p.resource))
not_before p q e = elim (cases_lt q.minute p.minute) [ inl l ↦ inl l | inr l ↦ inr (by l) ]
  where
    by : p.minute ≤ q.minute → (q.minute ≡ p.minute) × (q.resource ≤ p.resource)
    by l = (let x : q.minute ≡ p.minute = grind (arith, nat_tests) in x, let y : q.resource ≤ p.resource = grind (arith, nat_tests) in y)

-- ---- with a booking more

module _ (v : ViewParts) (a : Ask) (low : first_minute ≤ a.window.from) (high : a.window.to ≤ end_of_minutes) where
  abbrev t : Tables
  t = v.tables

  abbrev more : List Ask
  more = standing v ++ a ∷ []

  -- what is above the room stays so
  over_stays : (r k : ℕ) → (IsWithinRoom t (standing v) r k → ⊥) → IsWithinRoom t more r k → ⊥
  over_stays r k h w = h (less (room t r k) w)
    where
      less : (b : Option ℕ) → IfSome b (λ n. weight t more r k ≤ n) → IfSome b (λ n. weight t (standing v) r k ≤ n)
      less None l = tt
      less (Some n) l = omega (arith, l, weight-append t (standing v) (a ∷ []) r k)

  -- a probe that finds no room at a place
  record IsFound (r m : ℕ) : Type 0 where
    from : a.window.from ≤ m
    to : m < a.window.to
    short : IsShortOn v a m r
    before : (k : ℕ) → a.window.from ≤ k → k < m → HasRoomAt v a k

  over_new : (r m : ℕ) → IsFound r m → IsWithinRoom t more r m → ⊥
  over_new r m f w = f.short.short (λ c. w)

  room_before : (r m : ℕ) → IsFound r m → (q k : ℕ) → k < m → IsWithinRoom t (standing v) q k → IsWithinRoom t more q k
  room_before r m f q k l w = within_with v a q k (λ lo hi. f.before k lo l q) w

  room_lower : (r m : ℕ) → IsFound r m → (q : ℕ) → q < r → IsWithinRoom t (standing v) q m → IsWithinRoom t more q m
  room_lower r m f q l w = within_with v a q m (λ lo hi. f.short.lower q l) w

  minute_in : (r m : ℕ) → IsFound r m → IsMinute m
  minute_in r m f = (omega (arith, low, f.from), omega (arith, high, f.to))

  first_new : (r m : ℕ) → IsFound r m → ((q k : ℕ) → IsMinute k → k < m → IsWithinRoom t (standing v) q k) → ((q : ℕ) → q < r → IsWithinRoom t (standing v) q m) → IsOver t more (record { resource = r; minute = m })
  first_new r m f sooner lower = record {
    minute = minute_in r m f;
    over = over_new r m f;
    sooner = λ q k i l. room_before r m f q k l (sooner q k i l);
    lower = λ q l. room_lower r m f q l (lower q l);
  }

  keeps_found : (p : Place) (r m : ℕ) → IsOver t (standing v) p → IsFound r m → (p.minute < m) ⊎ ((p.minute ≡ m) × (p.resource ≤ r)) → IsOver t more p
  keeps_found p r m o f h = record {
    minute = o.minute;
    over = over_stays p.resource p.minute o.over;
    sooner = λ q k i l. room_before r m f q k (let n : p.minute ≤ m = at_most in omega (arith, l, n)) (o.sooner q k i l);
    lower = λ q l. elim h [
      | inl s ↦ room_before r m f q p.minute s (o.lower q l)
      | inr e ↦ subst (λ k. IsWithinRoom t more q k) (sym e.0) (room_lower r m f q (omega (arith, l, e.1)) (subst (λ k. IsWithinRoom t (standing v) q k) e.0 (o.lower q l)))
    ];
  }
    where
      at_most : p.minute ≤ m
      at_most = elim h [ inl s ↦ omega arith | inr e ↦ omega (arith, e.0) ]

  takes_new : (p : Place) (r m : ℕ) → IsOver t (standing v) p → IsFound r m → (m < p.minute) ⊎ ((m ≡ p.minute) × (r < p.resource)) → IsOver t more (record { resource = r; minute = m })
  takes_new p r m o f h = first_new r m f (λ q k i l. o.sooner q k i (omega (arith, l, at_most))) (λ q l. elim h [
    | inl s ↦ o.sooner q m (minute_in r m f) s
    | inr e ↦ subst (λ k. IsWithinRoom t (standing v) q k) (sym e.0) (o.lower q (omega (arith, l, e.1)))
  ])
    where
      at_most : m ≤ p.minute
      at_most = elim h [ inl s ↦ omega arith | inr e ↦ omega (arith, e.0) ]

  with_found : (found : Option Place) (r m : ℕ) → IsFirstOver t (standing v) found → IsFound r m → IsOver t more (earlier found (record { resource = r; minute = m }))
  with_found None r m o f = first_new r m f (λ q k i l. o.at q k i) (λ q l. o.at q m (minute_in r m f))
  with_found (Some p) r m o f = by (is_before (record { resource = r; minute = m }) p) refl
    where
      by : (b : Bool) → is_before (record { resource = r; minute = m }) p ≡ b → IsOver t more (cond b (record { resource = r; minute = m }) p)
      by true e = takes_new p r m o f (before_is (record { resource = r; minute = m }) p e)
      by false e = keeps_found p r m o f (not_before (record { resource = r; minute = m }) p e)

  with_free : (found : Option Place) → IsFirstOver t (standing v) found → IsFree v a → IsFirstOver t more found
  with_free None o free = free_fits v a o free
  with_free (Some p) o free = record {
    minute = o.minute;
    over = over_stays p.resource p.minute o.over;
    sooner = λ q k i l. within_with v a q k (λ lo hi. free k lo hi q) (o.sooner q k i l);
    lower = λ q l. within_with v a q p.minute (λ lo hi. free p.minute lo hi q) (o.lower q l);
  }

  pub over_more : (found : Option Place) (probe : Probe) → IsFirstOver t (standing v) found → IsProbe v a probe → IsFirstOver t more (after_probe found probe)
  over_more found Free o p = with_free found o p
  over_more found (Short r m) o p = with_found found r m o (record { from = p.0; to = p.1; short = p.2; before = p.3 })
