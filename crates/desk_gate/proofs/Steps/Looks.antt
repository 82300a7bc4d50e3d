-- Looks keep the rule: at the drawn turns, the count and the faults; and the marking of a part.
use Rattle.std.proofs.Common.{◌≡◌, ℕ, eqb, true, length, get_or, Option, refl, sym, ap, ◌∙◌, subst, arith}
use mathlib.Core.Option.{some, none}
use lib.ListN.{get_elem?}
use prog.Atomic.{either}
use Rattle.atomic_table.specs.Table.{Me, Act, keeps, step, stepped, Allows, Valid, carried_after}
use Rattle.atomic_table.proofs.Lists.{exchanged}
use Rattle.desk_gate.specs.declared.counted.Counted.{Ghosts}
use Rattle.desk_gate.specs.declared.view.View.{View}
use Rattle.desk_gate.specs.Views.{looked_at, began, read, marked}
use Rattle.desk_gate.specs.Rule.{IsConsistent}
use Rattle.desk_gate.specs.Told.{Looked, Began, Read, Marked, Told}
use Rattle.desk_gate.proofs.Views as views
use Rattle.desk_gate.proofs.Views.{same_number, not_both, first_cases}
use Rattle.desk_gate.proofs.Steps.Changes.{S, Rule, Fit, base, stays, word}

module _ {X E O : Type 0} (c : Ghosts X E O) (key : X) where
  pub look : (s : S X E O) (h : Rule c key s) (id : ℕ) (me : Me (Option X) (View E O)) → get_elem? s.views id ≡ some me.0
      → Rule c key (stepped s 0 (get_or s.words 0 0) id me.1 (looked_at (get_or s.words 0 0) me.0) keeps) × IsConsistent c.author (looked_at (get_or s.words 0 0) me.0)
  look s h id me at =
      let n : ℕ = get_or s.words 0 0 in
      let found : n ≡ h.state.drawn = ap (λ ws. get_or ws 0 0) h.words_are in
      let fit : Fit c key h.state (looked_at n me.0) = subst (λ k. Fit c key h.state (looked_at k me.0)) (sym found) (views.looks c.author (base c key) (c.origin_of key) h.state me.0 (h.core.fits id me.0 at)) in
      (stays c key 0 s h id me (looked_at n me.0) at fit refl refl refl refl refl (word c key s h 0 refl), fit.consistent)

  pub looks : (slots id : ℕ) (me : Me (Option X) (View E O)) → Allows (Rule c key) slots id me 0 (λ n. n) (λ n w. Looked c me n w)
  looks slots id me s h len at small =
      let n : ℕ = get_or s.words 0 0 in
      let found : n ≡ h.state.drawn = ap (λ ws. get_or ws 0 0) h.words_are in
      let most = h.core.most in
      let l = look s h id me at in
      (looked_at n me.0, keeps, tt, l.0, ((refl, l.1), omega arith))

  pub tells : (slots id : ℕ) (me : Me (Option X) (View E O)) → Allows (Rule c key) slots id me 0 (λ n. n) (λ _ w. Told c me w)
  tells slots id me s h len at small =
      let fit = h.core.fits id me.0 at in
      (me.0, keeps, tt, stays c key 0 s h id me me.0 at fit refl refl refl refl refl (word c key s h 0 refl), (refl, fit.consistent))

  pub reads : (slots id : ℕ) (me : Me (Option X) (View E O)) → Allows (Rule c key) slots id me 2 (λ n. n) (λ n w. Read c me n w)
  reads slots id me s h len at small =
      let n : ℕ = get_or s.words 2 0 in
      let found : n ≡ length h.state.history = ap (λ ws. get_or ws 2 0) h.words_are in
      let old = h.core.fits id me.0 at in
      let fit : Fit c key h.state (read n me.0) = subst (λ k. Fit c key h.state (read k me.0)) (sym found) (views.reads c.author (base c key) (c.origin_of key) h.state me.0 old) in
      let known = old.known in
      (read n me.0, keeps, tt, stays c key 2 s h id me (read n me.0) at fit refl refl refl refl refl (word c key s h 2 refl), ((refl, fit.consistent), omega arith))

  pub begins : (slots id : ℕ) (me : Me (Option X) (View E O)) → me.0.holds ≡ true → Allows (Rule c key) slots id me 3 (λ n. n) (λ n w. Began c me n w)
  begins slots id me holds s h len at small =
      let n : ℕ = get_or s.words 3 0 in
      let found : n ≡ h.state.faults = ap (λ ws. get_or ws 3 0) h.words_are in
      let old = h.core.fits id me.0 at in
      let fit : Fit c key h.state (began n me.0) = views.begins c.author (base c key) (c.origin_of key) h.state me.0 n old found in
      (began n me.0, keeps, tt, stays c key 3 s h id me (began n me.0) at fit refl refl refl refl refl (word c key s h 3 refl), ((refl, fit.consistent), found ∙ sym (old.holding holds).2))

  pub marks : (slots id part : ℕ) (me : Me (Option X) (View E O))
      → Allows (Rule c key) slots id me 0 (λ n. either (eqb n part) part n) (λ _ w. Marked c (step slots 0 part part none) me w)
  marks slots id part me s h len at small =
      let n : ℕ = get_or s.words 0 0 in
      let fit : Fit c key h.state (marked part me.0) = views.marks c.author (base c key) (c.origin_of key) h.state me.0 part (h.core.fits id me.0 at) in
      let F : ℕ → Type 0 = λ m. (w : View E O) × (a : Act (Option X)) × Valid s.homes me.1 a × Rule c key (stepped s 0 m id me.1 w a) × Marked c (step slots 0 part part none) me (w, carried_after me.1 a) in
      let all : F n = (marked part me.0, keeps, tt, stays c key 0 s h id me (marked part me.0) at fit refl refl refl refl refl (word c key s h 0 refl), (refl, fit.consistent)) in
      exchanged n part part F (λ (e : n ≡ part). subst F e all) (λ _. all)
