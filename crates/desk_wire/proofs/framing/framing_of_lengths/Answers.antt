use Rattle.std.proofs.Common.{ℕ, List, [], ◌∷◌, sym, ap, ◌∙◌, Option, Bor}
use Rattle.std.specs.Option.{option_copied, option_to_list}
use Rattle.desk_wire.specs.Framing.{framing_by_lengths}
use Rattle.desk_wire.proofs.LengthLemmas.{length_other, length_first, length_second, lengths_all, some_found, none_found}
use Rattle.desk_wire.proofs.framing.framing_of_lengths.Goals as goal
use Rattle.desk_wire.proofs.framing.framing_of_lengths.Goals.{then-has_name+else-is_some, else-has_name}

pub returns-then-is_some : goal.returns-then-is_some
returns-then-is_some c =
    let first = some_found c.loop-header.length (sym c.if-is_some.true ∙ c.is_some.ensures) in
    c.framing_of_two.ensures [] [] [] ∙ length_second c.args.buf.now c.args.headers.now c.loop-header.header-index first.0 c.loop-header-test.true (sym c.if-has_name.true ∙ c.has_name.ensures)
    (c.loop-header.invariant ∙ first.1)

pub loop-header-preserved : goal.loop-header-preserved
loop-header-preserved c = elim c.if-has_name.branch [
  | then-has_name+else-is_some w ↦
      length_first c.args.buf.now c.args.headers.now c.loop-header.header-index c.loop-header-test.true (sym w.if-has_name.true ∙ c.has_name.ensures)
      (c.loop-header.invariant ∙ none_found c.loop-header.length (sym w.if-is_some.false ∙ w.is_some.ensures))
      ∙ ap (λ (v : List ℕ). v ∷ []) (sym w.of-value.ensures) ∙ ap (λ (o : Option (Bor (List ℕ))). option_to_list (option_copied o)) (sym w.length-is)
  | else-has_name w ↦
      length_other c.args.buf.now c.args.headers.now c.loop-header.header-index c.loop-header-test.true (sym w.if-has_name.false ∙ c.has_name.ensures)
      ∙ c.loop-header.invariant ∙ ap (λ (o : Option (Bor (List ℕ))). option_to_list (option_copied o)) (sym w.length-is)
]

pub returns-in-None : goal.returns-in-None
returns-in-None c =
    let all = lengths_all c.args.buf.now c.args.headers.now c.loop-header.header-index c.loop-header-test.false in
    sym (ap framing_by_lengths (sym all ∙ c.loop-header.invariant ∙ ap (λ (o : Option (Bor (List ℕ))). option_to_list (option_copied o)) c.in-None.is))

pub returns-in-Some : goal.returns-in-Some
returns-in-Some c =
    let all = lengths_all c.args.buf.now c.args.headers.now c.loop-header.header-index c.loop-header-test.false in
    c.framing_of_value.ensures ∙ sym (ap framing_by_lengths (sym all ∙ c.loop-header.invariant ∙ ap (λ (o : Option (Bor (List ℕ))). option_to_list (option_copied o)) c.in-Some.is))
