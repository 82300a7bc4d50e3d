-- What the rules of a row's fields say of its days, shifts and ratings.
use Rattle.std.proofs.Common.{◌≡◌, ℕ, ◌≤◌, ℤ, pos, negsuc, neg_ℤ, int_le, nat_le, nat_lt, Bool, true, ◌&&◌, List, [], ◌∷◌, map, length, All, Option, Some, None, is_none, refl, sym, true≢false, arith, le-leb}
use Rattle.std.specs.List.{list_all}
use Rattle.std.proofs.lemmas.Bool.{and_parts, leb-true, ltb-true, eqb-true}
use Rattle.std.proofs.lemmas.List.Elements.{All-nil, All-cons, All-weaker}
use Rattle.desk_base.specs.declared.rows.tables.AnyRow.{AnyRow}
use Rattle.desk_base.specs.declared.rows.tables.AnyRow.TheVariants.{Zone, Day, HasRole, HasTerritory}
use Rattle.desk_base.specs.declared.rows.calendars.ZoneRow.{ZoneRow}
use Rattle.desk_base.specs.declared.rows.calendars.DayRow.{DayRow}
use Rattle.desk_base.specs.declared.rows.resources.HasRow.{HasRow}
use Rattle.desk_base.specs.rules.Rules.{first_broken}
use Rattle.desk_base.specs.rules.Fields.{begins_at, are_rising, are_shifts, zone_rules, day_rules, unrated_rules}
use Rattle.desk_base.specs.rules.Limits.{first_minute, end_of_minutes, minutes_a_day, first_day, last_day, shift_limit}
use Rattle.desk_time.specs.Limits.{IsMoment, IsDay}
use Rattle.desk_kept.specs.Values.{IsShift}
use Rattle.desk_kept.specs.Rules.{KeepsRules}
use Rattle.desk_kept.specs.Typed.{HasHorizon}
use Rattle.desk_kept.proofs.BrokenRules.{others, hold}
use Rattle.desk_kept.proofs.KeptValues.{FitsI32}

-- no rule of the row is broken
unbroken : {R : Type 0} (o : Option R) (b : Bool) → (is_none o && b) ≡ true → o ≡ None
unbroken None b e = refl
unbroken (Some x) b e = absurd (true≢false (sym e))

-- ---- shifts

pub record IsZoneShift (s : ℕ × ℤ) : Type 0 where
  pub moment : IsMoment s.0
  pub ahead : FitsI32 s.1

fits : (z : ℤ) → int_le (neg_ℤ (pos minutes_a_day)) z ≡ true → int_le z (pos minutes_a_day) ≡ true → FitsI32 z
fits (pos n) low high = record { low = refl; high = le-leb n 2147483647 (omega (arith, leb-true n minutes_a_day high)) }
fits (negsuc n) low high = record { low = le-leb n 2147483647 (omega (arith, leb-true n 1439 low)); high = refl }

-- it ends in the horizon, and clocks are a day ahead or behind at most
abbrev is_near : ℕ × ℤ → Bool
is_near s = nat_le s.0 end_of_minutes && int_le (neg_ℤ (pos minutes_a_day)) s.1 && int_le s.1 (pos minutes_a_day)

near : (s : ℕ × ℤ) → first_minute ≤ s.0 → is_near s ≡ true → IsZoneShift s
near s low e =
    let p = and_parts (nat_le s.0 end_of_minutes && int_le (neg_ℤ (pos minutes_a_day)) s.1) (int_le s.1 (pos minutes_a_day)) e in
    let q = and_parts (nat_le s.0 end_of_minutes) (int_le (neg_ℤ (pos minutes_a_day)) s.1) p.0 in
    record { moment = (omega (arith, low), omega (arith, leb-true s.0 end_of_minutes q.0)); ahead = fits s.1 q.1 p.1 }

above : (low : ℕ) → first_minute ≤ low → (ss : List (ℕ × ℤ)) → list_all (λ y. nat_lt low y) (map (λ s. s.0) ss) ≡ true → list_all is_near ss ≡ true → All IsZoneShift ss
above low h [] up e = All-nil IsZoneShift
above low h (s ∷ ss) up e =
    let p = and_parts (nat_lt low s.0) (list_all (λ y. nat_lt low y) (map (λ s. s.0) ss)) up in
    let q = and_parts (is_near s) (list_all is_near ss) e in
    All-cons IsZoneShift s ss (near s (omega (arith, h, ltb-true low s.0 p.0)) q.0) (above low h ss p.1 q.1)

all_near : (ss : List (ℕ × ℤ)) → begins_at first_minute ss ≡ true → are_rising (map (λ s. s.0) ss) ≡ true → list_all is_near ss ≡ true → All IsZoneShift ss
all_near [] begins up e = All-nil IsZoneShift
all_near (s ∷ ss) begins up e =
    let first : s.0 ≡ first_minute = eqb-true s.0 first_minute begins in
    let p = and_parts (list_all (λ y. nat_lt s.0 y) (map (λ s. s.0) ss)) (are_rising (map (λ s. s.0) ss)) up in
    let q = and_parts (is_near s) (list_all is_near ss) e in
    All-cons IsZoneShift s ss (near s (omega (arith, first)) q.0) (above s.0 (omega (arith, first)) ss p.0 q.1)

shifts_near : (ss : List (ℕ × ℤ)) → are_shifts ss ≡ true → All IsZoneShift ss
shifts_near ss e =
    let p = and_parts (nat_le (length ss) shift_limit && begins_at first_minute ss && are_rising (map (λ s. s.0) ss)) (list_all is_near ss) e in
    let q = and_parts (nat_le (length ss) shift_limit && begins_at first_minute ss) (are_rising (map (λ s. s.0) ss)) p.0 in
    let r = and_parts (nat_le (length ss) shift_limit) (begins_at first_minute ss) q.0 in
    all_near ss r.1 q.1 p.1

pub zone_shifts : (z : ZoneRow) → KeepsRules (Zone z) → All IsZoneShift z.shifts
zone_shifts z k =
    let named = hold (zone_rules z) (unbroken (first_broken (zone_rules z)) true k.1) in
    shifts_near z.shifts (hold (others (zone_rules z)) named.1).0

-- ---- days and ratings

pub day_shown : (d : DayRow) → KeepsRules (Day d) → IsDay d.day
day_shown d k =
    let within = and_parts (nat_le first_day d.day) (nat_le d.day last_day) (hold (day_rules k.0 d) (unbroken (first_broken (day_rules k.0 d)) true k.1)).0 in
    (leb-true first_day d.day within.0, leb-true d.day last_day within.1)

pub role_unrated : (h : HasRow) → KeepsRules (HasRole h) → h.rating ≡ 0
role_unrated h k = eqb-true h.rating 0 (hold (unrated_rules h) (unbroken (first_broken (unrated_rules h)) true k.1)).0

pub territory_unrated : (h : HasRow) → KeepsRules (HasTerritory h) → h.rating ≡ 0
territory_unrated h k = eqb-true h.rating 0 (hold (unrated_rules h) (unbroken (first_broken (unrated_rules h)) true k.1)).0

-- ---- the horizon

pub horizon : (row : AnyRow) → KeepsRules row → HasHorizon row
horizon (Zone z) k = All-weaker IsZoneShift IsShift (λ s h. h.moment) z.shifts (zone_shifts z k)
horizon (Day d) k = day_shown d k
horizon _ k = tt
