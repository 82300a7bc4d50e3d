-- The count of faults is settled.
use Rattle.std.proofs.Common.{◌≡◌, ℕ, max, true, [], get_or, set, Option, Some, refl, sym, ap, subst, inl, inr, arith, append-nil}
use mathlib.Core.Option.{some, none}
use lib.ListN.{get_elem?}
use Rattle.atomic_table.specs.Table.{Me, keeps, step, stepped, Allows}
use Rattle.atomic_table.proofs.Lists.{set_here}
use Rattle.desk_gate.specs.declared.counted.Counted.{Ghosts}
use Rattle.desk_gate.specs.declared.view.View.{View}
use Rattle.desk_gate.specs.Views.{settled}
use Rattle.desk_gate.specs.Rule.{LockState, IsConsistent}
use Rattle.desk_gate.specs.Told.{Settled}
use Rattle.desk_gate.proofs.Sums.{at_length}
use Rattle.desk_gate.proofs.Views as views
use Rattle.desk_gate.proofs.Views.{same_number, not_both, first_cases}
use Rattle.desk_gate.proofs.Steps.Changes.{S, Rule, Fit, base, core_set, sums_set, alone, is_out}

module _ {X E O : Type 0} (c : Ghosts X E O) (key : X) where
  settled_at : (s : S X E O) (h : Rule c key s) (id k : ℕ) (me : Me (Option X) (View E O)) → get_elem? s.views id ≡ some me.0 → me.0.holds ≡ true
      → Rule c key (stepped s 3 (max h.state.faults k) id me.1 (settled k me.0) keeps) × IsConsistent c.author (settled k me.0)
  settled_at s h id k me at holds =
      let b : LockState E = h.state in
      let b' : LockState E = record b { faults = max b.faults k } in
      let v : View E O = me.0 in
      let old = h.core.fits id v at in
      let turn : v.turn ≡ Some b.served = (old.holding holds).0 in
      let fit : Fit c key b' (settled k v) = views.settles c.author (base c key) (c.origin_of key) b v k old holds in (
        record {
          state = b';
          words_are = ap (λ ws. set ws 3 (max b.faults k)) h.words_are;
          core = core_set c key b b' s.homes s.homes s.views id v (settled k v) h.core at h.core.order h.core.most h.core.fresh
              (λ i u ne is f. views.others c.author (base c key) (c.origin_of key) b b' u f (omega arith) (omega arith) ([], sym (append-nil b.history))
              (λ n e. (f.turn n e).0) (λ e. absurd (alone c key s h id v at turn i u ne is (f.holding e).0)) (λ n e. (f.number n e).1))
              fit (λ n e. inl e) (λ n e. inl e)
              (inr (is_out c key s h id v at holds, id, settled k v, set_here s.views id (settled k v) (at_length s.views id v at), holds));
          sums = sums_set c key b b' s.views id v (settled k v) h.sums at refl refl refl;
        },
        fit.consistent,
      )

  pub settles : (slots id k : ℕ) (me : Me (Option X) (View E O)) → me.0.holds ≡ true
      → Allows (Rule c key) slots id me 3 (λ n. max n k) (λ n w. Settled c (step slots 3 k 0 none) me n w)
  settles slots id k me holds s h len at small =
      let n : ℕ = get_or s.words 3 0 in
      let found : n ≡ h.state.faults = ap (λ ws. get_or ws 3 0) h.words_are in
      let done = settled_at s h id k me at holds in
      (settled k me.0, keeps, tt, subst (λ m. Rule c key (stepped s 3 (max m k) id me.1 (settled k me.0) keeps)) (sym found) done.0, (refl, done.1))
