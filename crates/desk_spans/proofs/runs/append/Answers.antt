use Rattle.std.proofs.Common.{ℕ, ◌-◌, ◌<◌, length, arith, ◌∙◌}
use Rattle.std.proofs.lemmas.List.{nil_from_length}
use Rattle.desk_spans.proofs.RunLemmas.{appended_first, appended_push, appended_set_read, end_read}
use Rattle.desk_spans.proofs.runs.append.Goals as goal
use Rattle.desk_spans.proofs.runs.append.Goals.{else-count-gt0-via-then-count-gt0+else-index-run, else-count-gt0-via-else-count-gt0}

pub returns-then-index-run-clause-ok : goal.returns-then-index-run-clause-ok
returns-then-index-run-clause-ok c =
    let last : ℕ = c.len-count.result - 1 in
    let there : last < length c.args.runs.now.items = omega arith in
    appended_set_read c.args.runs.now.items last c.args.run c.index-then-index-run.result.now (omega arith) c.requires.apart c.requires.not_empty
    c.index-then-index-run.ensures
    (end_read c.args.runs.now.items last c.index.result.now _ there c.index.ensures ∙ c.if-index-run.true)

pub returns-in-Ok-clause-ok : goal.returns-in-Ok-clause-ok
returns-in-Ok-clause-ok c =
    rw c.in-Ok.ensures.items
    (elim c.else-count-gt0.branch [
      | else-count-gt0-via-then-count-gt0+else-index-run w ↦
          let last : ℕ = c.len-count.result - 1 in
          let there : last < length c.args.runs.now.items = omega arith in
          let behind = c.requires.behind last w.index.result.now there in
          let end = end_read c.args.runs.now.items last w.index.result.now w.index.result.now there w.index.ensures in
          appended_push c.args.runs.now.items last c.args.run w.index.result.now (omega arith) c.requires.apart c.requires.not_empty (omega (arith, behind, end, w.if-index-run.false))
      | else-count-gt0-via-else-count-gt0 w ↦
          rw (nil_from_length c.args.runs.now.items (omega arith)) (appended_first c.args.run c.requires.not_empty)
    ])
