-- The count is raised to the length of the history in hand.
use Rattle.std.proofs.Common.{◌≡◌, ℕ, eqb, ◌<◌, ◌≤◌, ◌≢◌, true, List, ◌++◌, length, get_or, set, Option, Some, All, refl, sym, ap, ◌∙◌, subst, inl, inr, arith, append-nil}
use mathlib.Core.Option.{some}
use lib.ListN.{get_elem?}
use prog.Atomic.{either}
use Rattle.atomic_table.specs.Table.{Me, Act, keeps, step, stepped, Allows, Valid, carried_after}
use Rattle.atomic_table.proofs.Lists.{set_here, exchanged}
use Rattle.desk_gate.specs.declared.counted.Counted.{Ghosts}
use Rattle.desk_gate.specs.declared.view.View.{View}
use Rattle.desk_gate.specs.Histories.{Begins, entries_of}
use Rattle.desk_gate.specs.Views.{raised}
use Rattle.desk_gate.specs.Rule.{LockState, IsConsistent}
use Rattle.desk_gate.specs.Told.{Raised}
use Rattle.desk_gate.proofs.Histories.{begins-length, entries-append, filter_own, filter_other}
use Rattle.desk_gate.proofs.Sums.{at_length}
use Rattle.desk_gate.proofs.Views as views
use Rattle.desk_gate.proofs.Views.{same_number, not_both, first_cases}
use Rattle.desk_gate.proofs.Steps.Changes.{S, Rule, Fit, base, core_set, sums_set, alone, is_out}

module _ {X E O : Type 0} (c : Ghosts X E O) (key : X) where
  -- the history of the value in hand has grown by entries of the view's own
  grown : (s : S X E O) (h : Rule c key s) (id : ℕ) (me : Me (Option X) (View E O)) (number : ℕ) (news : List E) → get_elem? s.views id ≡ some me.0 → me.0.holds ≡ true
      → me.0.number ≡ Some number → 0 < me.0.share → All (λ e. c.author e ≡ number) news
      → Rule c key (stepped s 2 (length (me.0.hand ++ news)) id me.1 (raised (me.0.hand ++ news) me.0) keeps) × IsConsistent c.author (raised (me.0.hand ++ news) me.0)
  grown s h id me number news at holds number_is share mine =
      let b : LockState E = h.state in
      let v : View E O = me.0 in
      let hist : List E = v.hand ++ news in
      let b' : LockState E = record b { history = hist } in
      let w : View E O = raised hist v in
      let old = h.core.fits id v at in
      let hand : v.hand ≡ b.history = (old.holding holds).1 in
      let turn : v.turn ≡ Some b.served = (old.holding holds).0 in
      let log : Begins b.history hist = (news, ap (λ l. l ++ news) hand) in
      let fit : Fit c key b' w = views.raises c.author (base c key) (c.origin_of key) b v number news old holds number_is (filter_own c.author number news mine) in
      let further : (n k : ℕ) → k ≤ length b.history → n ≢ number → entries_of c.author n k hist ≡ entries_of c.author n k b.history =
      λ n k l ne. ap (λ xs. entries_of c.author n k (xs ++ news)) hand ∙ entries-append c.author n k b.history news l
      ∙ ap (λ xs. entries_of c.author n k b.history ++ xs) (filter_other c.author number n news mine ne) ∙ append-nil (entries_of c.author n k b.history) in
      let base_in : (base c key) ≤ length b.history = let g = (old.gate share).0 in let l = begins-length _ _ old.seen in let o = old.consistent.long in omega arith in
      let number_in = (old.number number number_is).0 in (
        record {
          state = b';
          words_are = ap (λ ws. set ws 2 (length hist)) h.words_are;
          core = core_set c key b b' s.homes s.homes s.views id v w h.core at h.core.order h.core.most
              (λ n l. further n (base c key) base_in (λ e. let e' : n ≡ number = e in omega arith) ∙ h.core.fresh n l)
              (λ i u ne is f. views.others c.author (base c key) (c.origin_of key) b b' u f (omega arith) (omega arith) log
              (λ n e. (f.turn n e).0)
              (λ e. absurd (alone c key s h id v at turn i u ne is (f.holding e).0))
              (λ n e. further n u.base (let l = begins-length _ _ f.seen in let o = f.consistent.long in omega arith)
              (λ same. ne (h.core.numbers_apart i id n u v is at e (number_is ∙ ap Some (sym same)))) ∙ (f.number n e).1))
              fit (λ n e. inl e) (λ n e. inl e)
              (inr (is_out c key s h id v at holds, id, w, set_here s.views id w (at_length s.views id v at), holds));
          sums = sums_set c key b b' s.views id v w h.sums at refl refl refl;
        },
        fit.consistent,
      )

  pub raises : (slots id start count number : ℕ) (me : Me (Option X) (View E O)) (x : X) (news : List E) → me.0.holds ≡ true → me.0.number ≡ Some number
      → 0 < me.0.share → start ≡ length me.0.hand → c.history x ≡ me.0.hand ++ news → count ≡ length (c.history x) → All (λ e. c.author e ≡ number) news
      → Allows (Rule c key) slots id me 2 (λ n. either (eqb n start) count n) (λ n w. Raised c (step slots 2 start count (some (Some x))) me n w)
  raises slots id start count number me x news holds number_is share start_is hist count_is mine s h len at small =
      let n : ℕ = get_or s.words 2 0 in
      let found : n ≡ length h.state.history = ap (λ ws. get_or ws 2 0) h.words_are in
      let hand : length me.0.hand ≡ length h.state.history = ap length ((h.core.fits id me.0 at).holding holds).1 in
      let F : ℕ → Type 0 = λ m. (w : View E O) × (a : Act (Option X)) × Valid s.homes me.1 a × Rule c key (stepped s 2 m id me.1 w a)
      × Raised c (step slots 2 start count (some (Some x))) me n (w, carried_after me.1 a) in
      exchanged n start count F
      (λ (e : n ≡ start).
      let P : List E → Type 0 = λ l. Rule c key (stepped s 2 (length l) id me.1 (raised l me.0) keeps) × IsConsistent c.author (raised l me.0) in
      let done : P (c.history x) = subst P (sym hist) (grown s h id me number news at holds number_is share mine) in (
        raised (c.history x) me.0,
        keeps,
        tt,
        subst (λ k. Rule c key (stepped s 2 k id me.1 (raised (c.history x) me.0) keeps)) (sym count_is) done.0,
        (refl, done.1),
      ))
      (λ (ne : n ≢ start). absurd (ne (found ∙ sym hand ∙ sym start_is)))
