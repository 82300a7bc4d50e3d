-- The turn is passed on, with the value at home again.
use Rattle.std.proofs.Common.{◌≡◌, ℕ, ◌+◌, ◌<◌, ◌≢◌, Bool, true, false, List, [], ◌∷◌, length, set, Option, Some, None, refl, sym, ap, ◌∙◌, subst, ⊎_elim, inl, arith, append-nil, length-append}
use mathlib.Core.Option.{some, none}
use lib.ListN.{get_elem?}
use Rattle.atomic_table.specs.Table.{Me, gives, stepped, Allows, put_back}
use Rattle.atomic_table.proofs.Lists.{at_set}
use Rattle.desk_gate.specs.declared.counted.Counted.{Ghosts}
use Rattle.desk_gate.specs.declared.view.View.{View}
use Rattle.desk_gate.specs.Views.{waits, passed_on}
use Rattle.desk_gate.specs.Rule.{LockState, IsConsistent, Core}
use Rattle.desk_gate.specs.Told.{PassedOn}
use Rattle.desk_gate.proofs.Sums.{clash}
use Rattle.desk_gate.proofs.Views as views
use Rattle.desk_gate.proofs.Views.{same_number, not_both, first_cases}
use Rattle.desk_gate.proofs.Steps.Changes.{some_same, S, Homes, Rule, Fit, base, core_set, sums_set, alone, is_out}

not_true : (b : Bool) → (b ≡ true → ⊥) → b ≡ false
not_true true h = absurd (h refl)
not_true false h = refl

module _ {X E O : Type 0} (c : Ghosts X E O) (key : X) where
  -- the turn is passed on, and the value is at home again
  handed_on : (s : S X E O) (h : Rule c key s) (id : ℕ) (me : Me (Option X) (View E O)) (x : X) (more : List (ℕ × Option X)) → get_elem? s.views id ≡ some me.0 → me.0.holds ≡ true
      → 0 < me.0.share → me.1 ≡ (0, Some x) ∷ more → c.history x ≡ me.0.hand → c.fault_count x ≡ me.0.faults_now → me.0.origin ≡ Some (c.origin_of x)
      → Rule c key (stepped s 1 (h.state.served + 1) id me.1 (passed_on me.0) gives) × IsConsistent c.author (passed_on me.0)
  handed_on s h id me x more at holds share slot_is hist faults origin =
      let b : LockState E = h.state in
      let b' : LockState E = record b { served = b.served + 1 } in
      let v : View E O = me.0 in
      let w : View E O = passed_on v in
      let old = h.core.fits id v at in
      let turn : v.turn ≡ Some b.served = (old.holding holds).0 in
      let fit : Fit c key b' w = views.passes_on c.author (base c key) (c.origin_of key) b v old holds share in
      let mine = old.turn b.served turn in
      let homes : some (Some x) ∷ [] ≡ put_back s.homes me.1 = sym (ap (λ hs. put_back hs me.1) (is_out c key s h id v at holds) ∙ ap (λ l. put_back (none ∷ []) l) slot_is) in
      let same_origin : c.origin_of x ≡ c.origin_of key = some_same (c.origin_of x) (c.origin_of key) (sym origin ∙ (old.gate share).1) in
      let idle : (i : ℕ) (u : View E O) → get_elem? (set s.views id w) i ≡ some u → u.holds ≡ false =
      λ i u there. ⊎_elim
      (λ (t : (i ≡ id) × (w ≡ u)). ap (λ (y : View E O). y.holds) (sym t.1))
      (λ (t : (i ≢ id) × (get_elem? s.views i ≡ some u)). not_true u.holds (λ e. alone c key s h id v at turn i u t.0 t.1 ((h.core.fits i u t.1).holding e).0))
      (at_set s.views id i w u there) in
      let core : Core c key b' (some (Some x) ∷ []) (set s.views id w) = core_set c key b b' s.homes (some (Some x) ∷ []) s.views id v w h.core at (omega arith) h.core.most h.core.fresh
      (λ i u ne is f. views.others c.author (base c key) (c.origin_of key) b b' u f (omega arith) (omega arith) ([], sym (append-nil b.history))
      (λ n e.
      let l = (f.turn n e).0 in
      let other : n ≢ b.served = λ same. alone c key s h id v at turn i u ne is (e ∙ ap Some same) in
      omega arith)
      (λ e. absurd (alone c key s h id v at turn i u ne is (f.holding e).0)) (λ n e. (f.number n e).1))
      fit (λ n e. absurd (clash n None refl e)) (λ n e. inl e)
      (inl (x, refl, hist ∙ (old.holding holds).1, same_origin, faults ∙ (old.holding holds).2, idle)) in
      let waited : waits v.turn ≡ 1 = ap waits turn in
      let ended : length w.turns ≡ length v.turns + 1 = length-append v.turns _ in (
        record {
          state = b';
          words_are = ap (λ ws. set ws 1 (b.served + 1)) h.words_are;
          core = subst (λ (hs : Homes X). Core c key b' hs (set s.views id w)) homes core;
          sums = sums_set c key b b' s.views id v w h.sums at refl (omega arith) (omega arith);
        },
        fit.consistent,
      )

  pub passes_on : (slots id turn new : ℕ) (me : Me (Option X) (View E O)) (x : X) (more : List (ℕ × Option X)) → me.0.holds ≡ true → me.0.turn ≡ Some turn
      → 0 < me.0.share → new ≡ turn + 1 → me.1 ≡ (0, Some x) ∷ more → c.history x ≡ me.0.hand → c.fault_count x ≡ me.0.faults_now → me.0.origin ≡ Some (c.origin_of x)
      → Allows (Rule c key) slots id me 1 (λ _. new) (λ _ w. PassedOn c me w)
  passes_on slots id turn new me x more holds turn_is share new_is slot_is hist faults origin s h len at small =
      let served : h.state.served ≡ turn = same_number _ _ (sym ((h.core.fits id me.0 at).holding holds).0 ∙ turn_is) in
      let done = handed_on s h id me x more at holds share slot_is hist faults origin in
      let e : h.state.served + 1 ≡ new = omega arith in
      (passed_on me.0, gives, tt, subst (λ k. Rule c key (stepped s 1 k id me.1 (passed_on me.0) gives)) e done.0, (refl, done.1))
