-- The rule holds of a gate that is made.
use Rattle.std.proofs.Common.{◌≡◌, ℕ, zero, suc, ◌==◌, false, [], ◌∷◌, length, filter, Some, None, refl, sym, ap, subst, inl, arith, append-nil}
use mathlib.Core.Option.{some, some-injective, some-ne-none}
use lib.ListN.{get_elem?}
use Rattle.atomic_table.specs.Table.{opening}
use Rattle.std.proofs.lemmas.List.Elements.{All-nil}
use Rattle.desk_gate.specs.declared.counted.Counted.{Ghosts}
use Rattle.desk_gate.specs.declared.view.View.{View}
use Rattle.desk_gate.specs.Histories.{entries_of}
use Rattle.desk_gate.specs.Views.{newcomer}
use Rattle.desk_gate.specs.Rule.{LockState, NamesAtMost}
use Rattle.desk_gate.proofs.Histories.{drop-whole}
use Rattle.desk_gate.proofs.Sums.{clash}
use Rattle.desk_gate.proofs.Views.{not_both}
use Rattle.desk_gate.proofs.Steps.Changes.{Rule, Fit}

only : {A : Type 0} {a : A} (i : ℕ) (b : A) → get_elem? (a ∷ []) i ≡ some b → a ≡ b
only {a = a} zero b e = some-injective a b e
only (suc i) b e = absurd (some-ne-none b (sym e))

module _ {X E O : Type 0} (c : Ghosts X E O) (key : X) where
  -- the rule when the gate is made
  pub opens : (count faults : ℕ) → count ≡ length (c.history key) → faults ≡ c.fault_count key
      → Rule c key (opening (0 ∷ 0 ∷ count ∷ faults ∷ []) (Some key ∷ []) (newcomer (c.history key) (c.origin_of key)))
  opens count faults count_is faults_is =
      let v : View E O = newcomer (c.history key) (c.origin_of key) in
      let b : LockState E = record { drawn = 0; served = 0; faults = faults; history = c.history key } in
      let none_yet : (n : ℕ) → entries_of c.author n (length (c.history key)) (c.history key) ≡ [] = λ n. ap (filter (λ e. c.author e == n)) (drop-whole (c.history key)) in
      let fit : Fit c key b v = record {
        consistent = record { long = omega arith; within = omega arith; shorter_seen = (c.history key, refl); own = λ n e. none_yet n; nameless = λ e. refl; joined_other = λ n e f. clash n None refl e; live = λ e. absurd (omega arith) };
        turn = λ n e. absurd (clash n None refl e);
        holding = λ e. absurd (not_both false e refl);
        seen = ([], sym (append-nil (c.history key)));
        known = omega arith;
        looked = omega arith;
        number = λ n e. absurd (clash n None refl e);
        faults_before = omega arith;
        faults = All-nil (NamesAtMost faults);
        gate = λ e. (refl, refl);
      } in
      record {
        state = b;
        words_are = λ i. 0 ∷ 0 ∷ count_is i ∷ faults ∷ [];
        core = record {
          order = omega arith;
          most = omega arith;
          fresh = λ n l. none_yet n;
          fits = λ i u there. subst (λ (y : View E O). Fit c key b y) (only i u there) fit;
          turns_apart = λ i j n x y i_is j_is e f. absurd (clash n x.turn (ap (λ (y : View E O). y.turn) (sym (only i x i_is))) e);
          numbers_apart = λ i j n x y i_is j_is e f. absurd (clash n x.number (ap (λ (y : View E O). y.number) (sym (only i x i_is))) e);
          lies = inl (key, refl, refl, refl, sym faults_is, λ i u there. ap (λ (y : View E O). y.holds) (sym (only i u there)));
        };
        sums = record { shares = omega arith; ended = omega arith; waiting = omega arith };
      }
