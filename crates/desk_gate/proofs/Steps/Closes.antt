-- What the rule says of a gate that is closed.
use Rattle.std.proofs.Common.{◌≡◌, ℕ, ◌<◌, ◌≤◌, false, [], ◌∷◌, length, Some, None, All, sym, ap, ◌∙◌, subst, ⊎_elim, arith}
use mathlib.Core.Option.{some}
use lib.ListN.{get_elem?}
use Rattle.desk_gate.specs.declared.limits.TheConstants.{WHOLE_SHARE}
use Rattle.desk_gate.specs.declared.counted.Counted.{Ghosts}
use Rattle.desk_gate.specs.declared.view.View.{View}
use Rattle.desk_gate.specs.Histories.{Begins, entries_of}
use Rattle.desk_gate.specs.Views.{waits}
use Rattle.desk_gate.specs.Rule.{LockState, total, IsHome, IsOut, NamesAtMost}
use Rattle.desk_gate.proofs.Sums.{total_at, total_alone}
use Rattle.desk_gate.proofs.Steps.Changes.{S, Rule}

module _ {X E O : Type 0} (c : Ghosts X E O) (key : X) where
  -- what the gate has when the pass with the whole share closes it
  pub closes : (s : S X E O) (h : Rule c key s) (id : ℕ) (me : View E O) → get_elem? s.views id ≡ some me → me.share ≡ WHOLE_SHARE → me.turn ≡ None → me.holds ≡ false
      → (x : X) × (s.homes ≡ some (Some x) ∷ []) × Begins me.seen (c.history x) × ((n : ℕ) → me.number ≡ Some n → entries_of c.author n me.base (c.history x) ≡ me.made)
      × (me.origin ≡ Some (c.origin_of x)) × All (NamesAtMost (c.fault_count x)) me.turns × (me.looked ≤ length me.turns)
  closes s h id me at whole turn idle =
      let b : LockState E = h.state in
      let old = h.core.fits id me at in
      let all : total (λ (v : View E O). v.share) s.views ≡ me.share = let k = h.sums.shares in omega arith in
      let waiting : total (λ (v : View E O). waits v.turn) s.views ≡ waits me.turn = total_alone (λ (v : View E O). v.share) (λ (v : View E O). waits v.turn) s.views id me
      (λ i v is e. ap waits ((h.core.fits i v is).consistent.live e).0) at all in
      let ended : total (λ (v : View E O). length v.turns) s.views ≡ length me.turns = total_alone (λ (v : View E O). v.share) (λ (v : View E O). length v.turns) s.views id me
      (λ i v is e. ap length ((h.core.fits i v is).consistent.live e).1) at all in
      let none_waits : waits me.turn ≡ 0 = ap waits turn in
      let share : 0 < me.share = omega arith in
      ⊎_elim
      (λ (o : IsHome c key b s.homes s.views). (
        o.0,
        o.1,
        subst (λ l. Begins me.seen l) (sym o.2) old.seen,
        λ n e. ap (entries_of c.author n me.base) o.2 ∙ (old.number n e).1,
        (old.gate share).1 ∙ ap Some (sym o.3),
        subst (λ k. All (NamesAtMost k) me.turns) (sym o.4) old.faults,
        let l = old.looked in let w = h.sums.waiting in let e = h.sums.ended in omega arith,
      ))
      (λ (o : IsOut c key s.homes s.views).
      let l = total_at (λ (v : View E O). waits v.turn) s.views o.1 o.2 o.3 in
      let one : waits (o.2).turn ≡ 1 = ap waits ((h.core.fits o.1 o.2 o.3).holding o.4).0 in
      absurd (omega arith))
      h.core.lies
