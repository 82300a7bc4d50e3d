use Rattle.std.proofs.Common.{◌≡◌, ◌∷◌, [], ◌+◌, ◌∙◌, None, inl, inr, sym, ap, subst, arith}
use Rattle.std.proofs.lemmas.Bool.{cases_lt, false≢true}
use Rattle.desk_base.specs.declared.rows.groups.GroupRow.{GroupRow}
use Rattle.desk_base.specs.meaning.Picks.{first_broken_same}
use Rattle.desk_base.proofs.meaning.Shapes.{sound_group}
use Rattle.desk_feasible.specs.Grid.{IsInSteps}
use Rattle.desk_feasible.specs.Live.{PickRun}
use Rattle.desk_feasible.proofs.GridSteps.{steps_apart, steps_more}
use Rattle.desk_feasible.proofs.lives.pick_starts.PickStarts.next_start.Goals as goal

pub next_in_steps-start-requires-clause-step : goal.next_in_steps-start-requires-clause-step
next_in_steps-start-requires-clause-step c =
    let a = c.self.inside.case.now in
    omega (arith, (sound_group a.tables a.group c.self.invariant.0.formed c.self.invariant.0.there).step, ap (λ (g : GroupRow). g.step) c.group-group.ensures)

pub loop-start-smaller : goal.loop-start-smaller
loop-start-smaller c =
    let a = c.self.inside.case.now in
    omega (arith, (sound_group a.tables a.group c.self.invariant.0.formed c.self.invariant.0.there).step, ap (λ (g : GroupRow). g.step) c.group-group.ensures, c.from-start.ensures, c.loop-start-test.true, ap (λ (x : PickRun). x.last) c.self.view_is)

pub loop-start-preserved : goal.loop-start-preserved
loop-start-preserved c =
    let a = c.self.inside.case.now in
    let h = c.loop-start.invariant in
    let same : c.group-group.result.now ≡ c.args.self.now.asked.group = c.group-group.ensures ∙ ap (λ (x : PickRun). x.asked.group) c.self.view_is in
    let step : c.from-start.result ≡ c.args.self.now.asked.group.step = c.from-start.ensures ∙ ap (λ (g : GroupRow). g.step) same in
    record {
      steps = subst (λ n. IsInSteps c.args.self.now.asked.group (c.loop-start.start + n)) (sym step) (steps_more c.args.self.now.asked.group c.loop-start.start h.steps);
      low = omega (arith, h.low);
      none = λ s low less start. elim (cases_lt s c.loop-start.start) [
        | inl before ↦ h.none s low before start
        | inr here ↦ elim (cases_lt c.loop-start.start s) [
          | inl behind ↦
              let apart = steps_apart c.args.self.now.asked.group c.loop-start.start s h.steps (record { from = start.grid.from; steps = start.grid.steps }) behind in
              omega (arith, apart, less, step)
          | inr most ↦
              let at : c.unwrap.result ≡ c.loop-start.start = (rw c.unwrap.ensures at c.of.ensures).1 in
              let one : s ≡ c.unwrap.result = omega (arith, at, here, most) in
              let kept = c.keeps_same.ensures.1 (subst (λ m. first_broken_same c.args.self.now.asked.tables m c.args.self.now.asked.group.nodes c.args.self.now.asked.group.leaves (c.args.self.now.pick ∷ []) ≡ None) one start.same) in
              absurd (false≢true (sym c.if-keeps_same.false ∙ kept))
        ]
      ];
    }
