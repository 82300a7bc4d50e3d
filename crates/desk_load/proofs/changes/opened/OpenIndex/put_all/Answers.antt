use Rattle.std.proofs.Common.{◌≡◌, ◌∙◌, ℕ, suc, ◌+◌, ◌-◌, ◌++◌, ◌∷◌, [], sym, ap, subst, take, length, arith}
use Rattle.std.proofs.lemmas.List.{take_more}
use Rattle.std.proofs.lemmas.List.Sums.{fold-append}
use Rattle.desk_base.specs.changes.Changes.{with_row, with_rows, without_keys}
use Rattle.desk_load.specs.Changed.{parts_of}
use Rattle.desk_load.specs.Stages.{IsPhase}
use Rattle.desk_load.proofs.changes.opened.OpenIndex.put_all.Goals as goal

pub put_row-requires-clause-stage : goal.put_row-requires-clause-stage
put_row-requires-clause-stage c =
    let rows = c.as_slice-row-items.result.now in
    let i : ℕ = c.loop-row.row-index in
    let inside = c.loop-row-test.true in
    let left : length rows - i ≡ suc (length rows - (i + 1)) = omega (arith, inside) in
    let s = with_rows (without_keys c.args.tables.now c.args.change.now.removes) (take i rows) in
    (s, (_, subst (λ n. IsPhase c.args.tables.now s c.loop-row.phase n (parts_of c.loop-row.self)) left c.loop-row.invariant.stage))

pub loop-row-preserved : goal.loop-row-preserved
loop-row-preserved c =
    let t = c.args.tables.now in
    let s = without_keys t c.args.change.now.removes in
    let rows = c.as_slice-row-items.result.now in
    let i : ℕ = c.loop-row.row-index in
    let x = c.row-item.result in
    let inv = c.loop-row.invariant in
    let inside = c.loop-row-test.true in
    let left : length rows - i ≡ suc (length rows - (i + 1)) = omega (arith, inside) in
    let more : take (i + 1) rows ≡ take i rows ++ x ∷ [] = take_more rows i x inside ∙ ap (λ y. take i rows ++ y ∷ []) (sym c.row-item.is) in
    record {
      items = inv.items;
      stage =
          subst (λ u. IsPhase t u c.in_ok-phase.phase (length rows - (i + 1)) (parts_of c.put_row.new.self)) (sym (ap (with_rows s) more ∙ fold-append with_row s (take i rows) (x ∷ [])))
          (c.in_ok-phase.ensures.put (with_rows s (take i rows)) (length rows - (i + 1)) (subst (λ n. IsPhase t (with_rows s (take i rows)) c.loop-row.phase n (parts_of c.loop-row.self)) left inv.stage));
      before = c.in_ok-phase.ensures.before ∙ inv.before;
    }
