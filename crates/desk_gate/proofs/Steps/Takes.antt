-- The value is taken by the seat whose turn it is.
use Rattle.std.proofs.Common.{◌≡◌, ℕ, ◌<◌, ◌≢◌, false, [], ◌∷◌, length, get_or, set, Option, Some, refl, sym, ap, ◌∙◌, subst, ⊎_elim, inl, inr, arith, eq-eqb, ne_eqb}
use Rattle.std.specs.Bool.{MatchBool}
use mathlib.Core.Option.{some, none, some-injective}
use mathlib.Core.Logic.{dite}
use native.Mathlib.Decide.{ℕ_discrete}
use lib.ListN.{get_elem?}
use Rattle.atomic_table.specs.Table.{Me, keeps, takes, stepped, Allows}
use Rattle.atomic_table.proofs.Lists.{set_here}
use Rattle.desk_gate.specs.declared.limits.TheConstants.{TURN_LIMIT}
use Rattle.desk_gate.specs.declared.counted.Counted.{Ghosts}
use Rattle.desk_gate.specs.declared.view.View.{View}
use Rattle.desk_gate.specs.Histories.{Begins, entries_of}
use Rattle.desk_gate.specs.Views.{took}
use Rattle.desk_gate.specs.Rule.{LockState, IsConsistent, IsHome, IsOut, Core}
use Rattle.desk_gate.specs.Told.{Continues, Found}
use Rattle.desk_gate.proofs.Sums.{at_length}
use Rattle.desk_gate.proofs.Views as views
use Rattle.desk_gate.proofs.Views.{same_number, not_both, first_cases}
use Rattle.desk_gate.proofs.Steps.Changes.{S, Homes, Rule, Fit, base, core_set, sums_set, stays, word}

module _ {X E O : Type 0} (c : Ghosts X E O) (key : X) where
  -- the value is at home where no view holds it: it is the turn of a view that has not taken it
  is_home : (s : S X E O) (h : Rule c key s) (id : ℕ) (me : View E O) → get_elem? s.views id ≡ some me → me.turn ≡ Some h.state.served → me.holds ≡ false
      → IsHome c key h.state s.homes s.views
  is_home s h id me at turn idle = ⊎_elim
      (λ (o : IsHome c key h.state s.homes s.views). o)
      (λ (o : IsOut c key s.homes s.views).
      let v_turn : (o.2).turn ≡ Some h.state.served = ((h.core.fits o.1 o.2 o.3).holding o.4).0 in
      let one : o.1 ≡ id = h.core.turns_apart o.1 id h.state.served o.2 me o.3 at v_turn turn in
      let same : o.2 ≡ me = some-injective o.2 me (sym (subst (λ k. get_elem? s.views k ≡ some o.2) one o.3) ∙ at) in
      absurd (not_both me.holds (ap (λ (w : View E O). w.holds) (sym same) ∙ o.4) idle))
      h.core.lies

  abbrev Taken : Me (Option X) (View E O) → X → Type 0
  Taken me x = IsConsistent c.author (took (c.history x) (c.fault_count x) me.0) × Continues c me.0 x

  taken : (s : S X E O) (h : Rule c key s) (id : ℕ) (me : Me (Option X) (View E O)) → get_elem? s.views id ≡ some me.0 → me.0.turn ≡ Some h.state.served → me.0.holds ≡ false
      → 0 < me.0.share
      → (x : X) × (s.homes ≡ some (Some x) ∷ []) × Rule c key (stepped s 1 (get_or s.words 1 0) id me.1 (took (c.history x) (c.fault_count x) me.0) (takes 0 (Some x))) × Taken me x
  taken s h id me at turn idle share =
      let o = is_home s h id me.0 at turn idle in
      let x : X = o.0 in
      let b : LockState E = h.state in
      let old = h.core.fits id me.0 at in
      let w : View E O = took (c.history x) (c.fault_count x) me.0 in
      let fit : Fit c key b w = views.takes c.author (base c key) (c.origin_of key) b me.0 (c.history x) (c.fault_count x) old turn o.2 o.4 in
      let homes : none ∷ [] ≡ set s.homes 0 none = sym (ap (λ hs. set hs 0 none) o.1) in
      let core : Core c key b (none ∷ []) (set s.views id w) = core_set c key b b s.homes (none ∷ []) s.views id me.0 w h.core at h.core.order h.core.most h.core.fresh (λ i v ne is f. f) fit
      (λ n e. inl e) (λ n e. inl e) (inr (refl, id, w, set_here s.views id w (at_length s.views id me.0 at), refl)) in (
        x,
        o.1,
        record {
          state = b;
          words_are = word c key s h 1 refl ∙ h.words_are;
          core = subst (λ (hs : Homes X). Core c key b hs (set s.views id w)) homes core;
          sums = sums_set c key b b s.views id me.0 w h.sums at refl refl refl;
        },
        (
          fit.consistent,
          record {
            seen = subst (λ l. Begins me.0.seen l) (sym o.2) old.seen;
            known = let k = old.known in let l : length (c.history x) ≡ length b.history = ap length o.2 in omega arith;
            origin = (old.gate share).1 ∙ ap Some (sym o.3);
            own = λ n e. ap (entries_of c.author n me.0.base) o.2 ∙ (old.number n e).1;
          },
        ),
      )

  pub finds : (slots id turn : ℕ) (me : Me (Option X) (View E O)) → me.0.turn ≡ Some turn → me.0.holds ≡ false → 0 < me.0.share
      → Allows (Rule c key) slots id me 1 (λ n. n) (λ n w. Found c me n w)
  finds slots id turn me turn_is idle share s h len at small =
      let n : ℕ = get_or s.words 1 0 in
      let found : n ≡ h.state.served = ap (λ ws. get_or ws 1 0) h.words_are in
      let most = h.core.most in
      let below = ((h.core.fits id me.0 at).turn turn turn_is).1 in
      dite (ℕ_discrete n turn)
      (λ (e : n ≡ turn).
      let t = taken s h id me at (turn_is ∙ ap Some (sym e ∙ found)) idle share in
      let x : X = t.0 in
      let w : Me (Option X) (View E O) = (took (c.history x) (c.fault_count x) me.0, (0, Some x) ∷ me.1) in (
        w.0,
        takes 0 (Some x),
        ap (λ hs. get_elem? hs 0) t.1,
        t.2,
        λ m m_is.
            let same : turn ≡ m = same_number turn m (sym turn_is ∙ m_is) in
            subst (λ b. MatchBool b ((x : X) × (w ≡ (took (c.history x) (c.fault_count x) me.0, (0, Some x) ∷ me.1)) × IsConsistent c.author (took (c.history x) (c.fault_count x) me.0)
            × Continues c me.0 x × (m < TURN_LIMIT)) (w ≡ me))
            (sym (eq-eqb n m (e ∙ same))) (x, refl, t.3.0, t.3.1, omega arith),
      ))
      (λ (ne : n ≢ turn). (
        me.0,
        keeps,
        tt,
        stays c key 1 s h id me me.0 at (h.core.fits id me.0 at) refl refl refl refl refl (word c key s h 1 refl),
        λ m m_is.
            let same : turn ≡ m = same_number turn m (sym turn_is ∙ m_is) in
            subst (λ b. MatchBool b ((x : X) × (me ≡ (took (c.history x) (c.fault_count x) me.0, (0, Some x) ∷ me.1)) × IsConsistent c.author (took (c.history x) (c.fault_count x) me.0)
            × Continues c me.0 x × (m < TURN_LIMIT)) (me ≡ me))
            (sym (ne_eqb n m (λ e. ne (e ∙ sym same)))) refl,
      ))
