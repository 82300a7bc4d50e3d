-- Starts in whole steps.
use Rattle.std.proofs.Common.{◌≡◌, ℕ, ◌+◌, ◌-◌, ◌*◌, ◌/◌, ◌%◌, ◌<◌, ◌≤◌, inl, inr, ap, ◌∙◌, arith}
use Rattle.std.proofs.lemmas.Bool.{cases_lt}
use Rattle.std.proofs.Math.Nat.{mod-add-div', add-mod_right, mul-mod_left, mul-le-mul_right}
use Rattle.desk_base.specs.declared.rows.groups.GroupRow.{GroupRow}
use Rattle.desk_feasible.specs.Grid.{IsInSteps}

times_more : (a b n : ℕ) → (a + b) * n ≡ a * n + b * n
times_more a b n = grind arith

-- of two starts the later is a step later at least
pub steps_apart : (g : GroupRow) (a b : ℕ) → IsInSteps g a → IsInSteps g b → a < b → a + g.step ≤ b
steps_apart g a b p q l =
    let x = a - g.from in
    let y = b - g.from in
    let e = mod-add-div' x g.step in
    let f = mod-add-div' y g.step in
    elim (cases_lt (x / g.step) (y / g.step)) [
      | inl less ↦ let h = mul-le-mul_right {m = x / g.step + 1} {n = y / g.step} g.step (omega arith) in omega (arith, e, f, h, times_more (x / g.step) 1 g.step, p.steps, q.steps, p.from, q.from)
      | inr more ↦ let h = mul-le-mul_right {m = y / g.step} {n = x / g.step} g.step more in absurd (omega (arith, e, f, h, p.steps, q.steps, p.from, q.from, l))
    ]

-- a step behind a start is one
pub steps_more : (g : GroupRow) (a : ℕ) → IsInSteps g a → IsInSteps g (a + g.step)
steps_more g a p = record {
  from = omega (arith, p.from);
  steps = ap (λ n. n % g.step) (omega (arith, p.from)) ∙ add-mod_right (a - g.from) g.step ∙ p.steps;
}

module _ (g : GroupRow) (minute rest : ℕ) (low : g.from < minute) (is_rest : rest ≡ (minute - g.from) % g.step) where
  whole : rest + (minute - g.from) / g.step * g.step ≡ minute - g.from
  whole = omega (arith, is_rest, mod-add-div' (minute - g.from) g.step)

  -- the last start that is not above the minute
  begun : IsInSteps g (minute - rest)
  begun = record {
    from = omega (arith, whole, low);
    steps = ap (λ n. n % g.step) (omega (arith, whole, low)) ∙ mul-mod_left ((minute - g.from) / g.step) g.step;
  }

  pub next_is : rest ≤ g.step → IsInSteps g (minute + (g.step - rest))
  next_is h = let m = steps_more g (minute - rest) begun in record {
    from = omega (arith, low);
    steps = ap (λ n. (n - g.from) % g.step) (omega (arith, whole, low, h)) ∙ m.steps;
  }

  pub next_least : 1 ≤ rest → rest ≤ g.step → (s : ℕ) → minute ≤ s → IsInSteps g s → minute + (g.step - rest) ≤ s
  next_least some few s h p = let e = steps_apart g (minute - rest) s begun p (omega (arith, some, h, low, whole)) in omega (arith, e, whole, few, low)
