use Rattle.std.proofs.Common.{◌≡◌, ℕ, ◌-◌, ◌<◌, List, length, get_or, rules, arith, ap, ◌∙◌, sym, w64, to_z, of_z, FitsSigned}
use Rattle.std.proofs.lemmas.List.{get_or_default}
use Rattle.std.proofs.lemmas.Int.{to_z-of_z}
use Rattle.desk_spans.specs.declared.stretch.Stretch.{Stretch}
use Rattle.desk_spans.proofs.Lengthening.{lengthened_push, lengthened_set}
use Rattle.desk_spans.proofs.stretch.lengthen.Goals as goal
use Rattle.desk_spans.proofs.stretch.lengthen.Goals.{else-count-gt0-via-then-count-gt0+else-index-value, else-count-gt0-via-else-count-gt0}

-- the value that is read at a place is that of the element there, at any default
value_read : (ss : List Stretch) (i : ℕ) (s d : Stretch) → i < length ss → s ≡ get_or ss i s → (get_or ss i d).value ≡ s.value
value_read ss i s d there read = ap (λ (t : Stretch). t.value) (get_or_default ss i d s there ∙ sym read)

pub returns-then-index-value-clause-ok : goal.returns-then-index-value-clause-ok
returns-then-index-value-clause-ok c from end laid later =
    let fits : FitsSigned w64 c.index.result.now.value = search rules in
    let same = sym (to_z-of_z w64 _ fits) ∙ ap (to_z w64) c.if-index-value.true ∙ to_z-of_z w64 _ c.ranges.value in
    rw (to_z-of_z w64 _ c.ranges.value)
    (lengthened_set from _ end (c.len-count.result - 1) (record { end = c.args.to; value = c.args.value }) (omega arith) laid later
    (λ d. value_read c.args.stretches.now.items (c.len-count.result - 1) c.index.result.now d (omega arith) c.index.ensures ∙ same))

pub returns-in-Ok-clause-ok : goal.returns-in-Ok-clause-ok
returns-in-Ok-clause-ok c from end laid later =
    rw (c.in-Ok.ensures.items, to_z-of_z w64 _ c.ranges.value)
    (lengthened_push from _ end (record { end = c.args.to; value = c.args.value }) laid later
    (λ d some same. elim c.else-count-gt0.branch [
      | else-count-gt0-via-then-count-gt0+else-index-value w ↦
          let count : c.len-count.result ≡ length c.args.stretches.now.items = omega arith in
          let here = rw count at (value_read c.args.stretches.now.items (c.len-count.result - 1) w.index.result.now d (omega arith) w.index.ensures) in
          w.if-index-value.false (ap (of_z w64) (sym here ∙ same))
      | else-count-gt0-via-else-count-gt0 w ↦ absurd (omega arith)
    ]))
