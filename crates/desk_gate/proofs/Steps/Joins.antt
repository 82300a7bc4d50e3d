-- Two views are put together.
use Rattle.std.proofs.Common.{◌≡◌, ℕ, ◌<◌, ◌≢◌, false, List, length, set, None, refl, sym, ap, ⊎_elim, inl, arith, length-append}
use mathlib.Core.Option.{some}
use lib.ListN.{get_elem?}
use Rattle.atomic_table.specs.Table.{Joins}
use Rattle.atomic_table.proofs.Lists.{at_set}
use Rattle.desk_gate.specs.declared.counted.Counted.{Ghosts}
use Rattle.desk_gate.specs.declared.view.View.{View}
use Rattle.desk_gate.specs.Views.{waits, spent, joined}
use Rattle.desk_gate.specs.Rule.{LockState, Core}
use Rattle.desk_gate.proofs.Sums.{total_set, clash}
use Rattle.desk_gate.proofs.Views as views
use Rattle.desk_gate.proofs.Views.{same_number, not_both, first_cases}
use Rattle.desk_gate.proofs.Steps.Changes.{Rule, base, core_set, lies_same}

module _ {X E O : Type 0} (c : Ghosts X E O) (key : X) where
  pub joins : (id other : ℕ) (v w : View E O) → 0 < v.share → w.turn ≡ None → w.holds ≡ false → Joins (Rule c key) id v other w (joined v w) spent
  joins id other v w share turn holds s h at apart at' =
      let b : LockState E = h.state in
      let both : View E O = joined v w in
      let vs : List (View E O) = set s.views id both in
      let there : get_elem? s.views other ≡ some w = ⊎_elim (λ (t : (other ≡ id) × (both ≡ w)). absurd (apart t.0)) (λ (t : (other ≢ id) × (get_elem? s.views other ≡ some w)). t.1)
      (at_set s.views id other both w at') in
      let core : Core c key b s.homes vs = core_set c key b b s.homes s.homes s.views id v both h.core at h.core.order h.core.most h.core.fresh (λ i u ne is f. f)
      (views.joins c.author (base c key) (c.origin_of key) b v w (h.core.fits id v at) (h.core.fits other w there) share (λ n e f. apart (h.core.numbers_apart other id n w v there at f e))) (λ n e. inl e) (λ n e. inl e)
      (lies_same c key b b s.homes s.views id v both at refl refl refl h.core.lies) in
      let last : Core c key b s.homes (set vs other spent) = core_set c key b b s.homes s.homes vs other w spent core at' core.order core.most core.fresh (λ i u ne is f. f)
      (views.spends c.author (base c key) (c.origin_of key) b) (λ n e. absurd (clash n None refl e)) (λ n e. absurd (clash n None refl e))
      (lies_same c key b b s.homes vs other w spent at' (sym holds) refl refl core.lies) in
      let s1 = total_set (λ (v : View E O). v.share) s.views id v both at in
      let s2 = total_set (λ (v : View E O). v.share) vs other w spent at' in
      let e1 = total_set (λ (v : View E O). length v.turns) s.views id v both at in
      let e2 = total_set (λ (v : View E O). length v.turns) vs other w spent at' in
      let e3 = length-append v.turns w.turns in
      let w1 = total_set (λ (v : View E O). waits v.turn) s.views id v both at in
      let w2 = total_set (λ (v : View E O). waits v.turn) vs other w spent at' in
      let w3 : waits w.turn ≡ 0 = ap waits turn in
      record {
        state = b;
        words_are = h.words_are;
        core = last;
        sums = record { shares = let k = h.sums.shares in omega arith; ended = let k = h.sums.ended in omega arith; waiting = let k = h.sums.waiting in omega arith };
      }
