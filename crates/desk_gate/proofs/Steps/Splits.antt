-- A view is cut in two.
use Rattle.std.proofs.Common.{◌≡◌, ℕ, ◌<◌, false, List, [], ◌∷◌, ◌++◌, length, set, None, refl, sym, ap, ◌∙◌, subst, ⊎_elim, inl, inr, arith}
use mathlib.Core.Option.{some}
use lib.ListN.{get_elem?}
use Rattle.atomic_table.specs.Table.{Splits}
use Rattle.atomic_table.proofs.Lists.{at_snoc, at_longer}
use Rattle.desk_gate.specs.declared.counted.Counted.{Ghosts}
use Rattle.desk_gate.specs.declared.view.View.{View}
use Rattle.desk_gate.specs.Views.{waits, left_over, cut_off}
use Rattle.desk_gate.specs.Rule.{LockState, IsHome, IsOut, Core}
use Rattle.desk_gate.proofs.Sums.{total_set, total_snoc, apart_snoc}
use Rattle.desk_gate.proofs.Views as views
use Rattle.desk_gate.proofs.Views.{same_number, not_both, first_cases}
use Rattle.desk_gate.proofs.Steps.Changes.{Homes, Rule, Fit, base, core_set, lies_same}

module _ {X E O : Type 0} (c : Ghosts X E O) (key : X) where
  -- a new view, with no turn, no number and no value
  core_snoc : (b : LockState E) (homes : Homes X) (vs : List (View E O)) (w : View E O) → Core c key b homes vs → Fit c key b w → w.turn ≡ None → w.number ≡ None → w.holds ≡ false
      → Core c key b homes (vs ++ w ∷ [])
  core_snoc b homes vs w h fit turn number holds = record {
    order = h.order;
    most = h.most;
    fresh = h.fresh;
    fits = λ i v there. ⊎_elim (λ (t : get_elem? vs i ≡ some v). h.fits i v t) (λ (t : w ≡ v). subst (λ (u : View E O). Fit c key b u) t fit) (at_snoc vs w v i there);
    turns_apart = apart_snoc (λ (v : View E O). v.turn) vs w h.turns_apart turn;
    numbers_apart = apart_snoc (λ (v : View E O). v.number) vs w h.numbers_apart number;
    lies = ⊎_elim
        (λ (o : IsHome c key b homes vs). inl (
          o.0,
          o.1,
          o.2,
          o.3,
          o.4,
          λ i v there. ⊎_elim
              (λ (t : get_elem? vs i ≡ some v). o.5 i v t)
              (λ (t : w ≡ v). ap (λ (u : View E O). u.holds) (sym t) ∙ holds)
              (at_snoc vs w v i there),
        ))
        (λ (o : IsOut c key homes vs). inr (o.0, o.1, o.2, at_longer vs (w ∷ []) o.1 o.2 o.3, o.4))
        h.lies;
  }

  pub splits : (id : ℕ) (v : View E O) → v.part < v.share → Splits (Rule c key) id v (left_over v) (cut_off v)
  splits id v part s h at =
      let b : LockState E = h.state in
      let old = h.core.fits id v at in
      let left : View E O = left_over v in
      let vs : List (View E O) = set s.views id left in
      let core : Core c key b s.homes vs = core_set c key b b s.homes s.homes s.views id v left h.core at h.core.order h.core.most h.core.fresh (λ i u ne is f. f)
      (views.leaves_over c.author (base c key) (c.origin_of key) b v old part) (λ n e. inl e) (λ n e. inl e) (lies_same c key b b s.homes s.views id v left at refl refl refl h.core.lies) in
      let s1 = total_set (λ (v : View E O). v.share) s.views id v left at in
      let s2 = total_snoc (λ (v : View E O). v.share) vs (cut_off v) in
      let e1 = total_set (λ (v : View E O). length v.turns) s.views id v left at in
      let e2 = total_snoc (λ (v : View E O). length v.turns) vs (cut_off v) in
      let w1 = total_set (λ (v : View E O). waits v.turn) s.views id v left at in
      let w2 = total_snoc (λ (v : View E O). waits v.turn) vs (cut_off v) in
      record {
        state = b;
        words_are = h.words_are;
        core = core_snoc b s.homes vs (cut_off v) core (views.cuts_off c.author (base c key) (c.origin_of key) b v old part) refl refl refl;
        sums = record { shares = let k = h.sums.shares in omega arith; ended = let k = h.sums.ended in omega arith; waiting = let k = h.sums.waiting in omega arith };
      }
