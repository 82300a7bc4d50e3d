-- A turn is drawn.
use Rattle.std.proofs.Common.{◌≡◌, ℕ, eqb, ◌+◌, ◌<◌, ◌≢◌, false, [], get_or, set, Option, Some, None, refl, sym, ap, ◌∙◌, subst, ⊎_elim, inl, inr, arith, eq-eqb, ne_eqb, append-nil}
use Rattle.std.specs.Bool.{MatchBool}
use mathlib.Core.Option.{some, none}
use lib.ListN.{get_elem?}
use prog.Atomic.{either}
use Rattle.atomic_table.specs.Table.{Me, Act, keeps, step, stepped, Allows, Valid, carried_after}
use Rattle.atomic_table.proofs.Lists.{exchanged}
use Rattle.desk_gate.specs.declared.limits.TheConstants.{TURN_LIMIT}
use Rattle.desk_gate.specs.declared.counted.Counted.{Ghosts}
use Rattle.desk_gate.specs.declared.view.View.{View}
use Rattle.desk_gate.specs.Views.{waits, looked_at, drew}
use Rattle.desk_gate.specs.Rule.{LockState, IsConsistent}
use Rattle.desk_gate.specs.Told.{Drew}
use Rattle.desk_gate.proofs.Views as views
use Rattle.desk_gate.proofs.Views.{same_number, not_both, first_cases}
use Rattle.desk_gate.proofs.Steps.Changes.{S, Rule, Fit, base, core_set, lies_same, sums_set}
use Rattle.desk_gate.proofs.Steps.Looks.{look}

module _ {X E O : Type 0} (c : Ghosts X E O) (key : X) where
  -- a turn is drawn
  drawn : (s : S X E O) (h : Rule c key s) (id : ℕ) (me : Me (Option X) (View E O)) → get_elem? s.views id ≡ some me.0 → me.0.turn ≡ None → me.0.holds ≡ false → 0 < me.0.share
      → h.state.drawn < TURN_LIMIT
      → Rule c key (stepped s 0 (h.state.drawn + 1) id me.1 (drew h.state.drawn me.0) keeps) × IsConsistent c.author (drew h.state.drawn me.0)
  drawn s h id me at turn idle share room =
      let b : LockState E = h.state in
      let b' : LockState E = record b { drawn = b.drawn + 1 } in
      let order = h.core.order in
      let fit : Fit c key b' (drew b.drawn me.0) = views.draws c.author (base c key) (c.origin_of key) b me.0 (h.core.fits id me.0 at) idle share order (h.core.fresh b.drawn (omega arith)) in
      let none_waits : waits me.0.turn ≡ 0 = ap waits turn in (
        record {
          state = b';
          words_are = ap (λ ws. set ws 0 (b.drawn + 1)) h.words_are;
          core = core_set c key b b' s.homes s.homes s.views id me.0 (drew b.drawn me.0) h.core at (omega arith) (omega arith) (λ n l. h.core.fresh n (omega arith))
              (λ i v ne is f. views.others c.author (base c key) (c.origin_of key) b b' v f (omega arith) (omega arith) ([], sym (append-nil b.history)) (λ n e. (f.turn n e).0) f.holding (λ n e. (f.number n e).1))
              fit
              (λ n e. let d = same_number b.drawn n e in inr (omega arith))
              (λ n e. ⊎_elim (λ (o : me.0.number ≡ Some n). inl o) (λ (o : (me.0.number ≡ None) × (n ≡ b.drawn)). inr (let d = o.1 in omega arith)) (first_cases me.0.number b.drawn n e))
              (lies_same c key b b' s.homes s.views id me.0 (drew b.drawn me.0) at refl refl refl h.core.lies);
          sums = sums_set c key b b' s.views id me.0 (drew b.drawn me.0) h.sums at refl (omega arith) (omega arith);
        },
        fit.consistent,
      )

  pub draws : (slots id next : ℕ) (me : Me (Option X) (View E O)) → me.0.turn ≡ None → me.0.holds ≡ false → 0 < me.0.share → next < TURN_LIMIT
      → Allows (Rule c key) slots id me 0 (λ n. either (eqb n next) (next + 1) n) (λ n w. Drew c (step slots 0 next (next + 1) none) me n w)
  draws slots id next me turn idle share room s h len at small =
      let n : ℕ = get_or s.words 0 0 in
      let found : n ≡ h.state.drawn = ap (λ ws. get_or ws 0 0) h.words_are in
      let F : ℕ → Type 0 = λ m. (w : View E O) × (a : Act (Option X)) × Valid s.homes me.1 a × Rule c key (stepped s 0 m id me.1 w a)
      × Drew c (step slots 0 next (next + 1) none) me n (w, carried_after me.1 a) in
      let hit : Me (Option X) (View E O) = (drew next me.0, me.1) in
      let miss : Me (Option X) (View E O) = (looked_at n me.0, me.1) in
      exchanged n next (next + 1) F
      (λ (e : n ≡ next).
      let d : h.state.drawn ≡ next = sym found ∙ e in
      let P : ℕ → Type 0 = λ k. Rule c key (stepped s 0 (k + 1) id me.1 (drew k me.0) keeps) × IsConsistent c.author (drew k me.0) in
      let done : P next = subst P d (drawn s h id me at turn idle share (omega arith)) in (
        drew next me.0,
        keeps,
        tt,
        done.0,
        subst (λ b. MatchBool b ((hit ≡ hit) × IsConsistent c.author (drew next me.0)) ((hit ≡ miss) × IsConsistent c.author (looked_at n me.0)))
            (sym (eq-eqb n next e)) (refl, done.1),
      ))
      (λ (ne : n ≢ next).
      let l = look c key s h id me at in (
        looked_at n me.0,
        keeps,
        tt,
        l.0,
        subst (λ b. MatchBool b ((miss ≡ hit) × IsConsistent c.author (drew next me.0)) ((miss ≡ miss) × IsConsistent c.author (looked_at n me.0)))
            (sym (ne_eqb n next ne)) (refl, l.1),
      ))
