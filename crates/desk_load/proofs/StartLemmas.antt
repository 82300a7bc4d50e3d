-- Starts in whole steps.
use Rattle.std.proofs.Common.{◌≡◌, ℕ, ◌+◌, ◌-◌, ◌*◌, ◌<◌, ◌≤◌, inl, inr, arith}
use Rattle.std.proofs.lemmas.Bool.{cases_lt}
use Rattle.std.proofs.Math.Nat.{mul-le-mul_right}
use Rattle.desk_load.specs.declared.view.starts.Starts.{Starts}
use Rattle.desk_load.specs.Starts.{IsAmong}

times_more : (a b n : ℕ) → (a + b) * n ≡ a * n + b * n
times_more a b n = grind arith

-- s comes before q steps after the start, so before its minute
pub before_next : (among : Starts) (start minute q s : ℕ) → 1 ≤ among.step → q * among.step < minute - start + among.step → start < minute → IsAmong among start → IsAmong among s → s < start + q * among.step → s < minute
before_next among start minute q s one near later a b h = elim (cases_lt b.steps (a.steps + q)) [
  | inl l ↦ let e = mul-le-mul_right {m = b.steps + 1} {n = a.steps + q} among.step (omega arith) in omega (arith, e, times_more b.steps 1 among.step, times_more a.steps q among.step, a.place, b.place)
  | inr l ↦ let e = mul-le-mul_right {m = a.steps + q} {n = b.steps} among.step l in absurd (omega (arith, e, times_more a.steps q among.step, a.place, b.place))
]

pub next_among : (among : Starts) (start q : ℕ) → IsAmong among start → IsAmong among (start + q * among.step)
next_among among start q a = record { steps = a.steps + q; place = omega (arith, times_more a.steps q among.step, a.place) }
