use Rattle.std.proofs.Common.{◌-◌, length, take, refl, sym, ap, ◌∙◌, arith}
use Rattle.std.proofs.lemmas.List.{take_all}
use Rattle.desk_feasible.proofs.Laid.{one_less}
use Rattle.desk_feasible.proofs.fitting.take_off.Goals as goal

pub loop-init : goal.loop-init
loop-init c = record {
  tables = refl;
  without = refl;
  rest = sym (take_all (length c.args.view.now.overlay - 0) c.args.view.now.overlay (omega arith));
}

pub loop-preserved : goal.loop-preserved
loop-preserved c =
    let h = c.loop.invariant in
    let e = c.overlay_pop.ensures in
    record {
      tables = e.tables ∙ h.tables;
      without = e.without ∙ h.without;
      rest = e.shorter ∙ one_less c.args.view.now.overlay c.loop.view.overlay c.loop.counter h.rest;
    }

pub returns-clause-tables : goal.returns-clause-tables
returns-clause-tables c = c.loop.invariant.tables

pub returns-clause-without : goal.returns-clause-without
returns-clause-without c = c.loop.invariant.without

pub returns-clause-rest : goal.returns-clause-rest
returns-clause-rest c = c.loop.invariant.rest ∙ ap (λ n. take (length c.args.view.now.overlay - n) c.args.view.now.overlay) (omega arith)
