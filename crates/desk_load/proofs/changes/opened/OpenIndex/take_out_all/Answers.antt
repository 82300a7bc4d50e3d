use Rattle.std.proofs.Common.{◌∙◌, ℕ, ◌∷◌, [], sym, ap, subst, take, length}
use Rattle.std.proofs.lemmas.List.{take_more}
use Rattle.std.proofs.lemmas.List.Sums.{fold-append}
use Rattle.desk_base.specs.changes.Changes.{without_key, without_keys}
use Rattle.desk_load.specs.Changed.{parts_of}
use Rattle.desk_load.specs.Stages.{IsPhase}
use Rattle.desk_load.proofs.Numbers.{take_every}
use Rattle.desk_load.proofs.changes.opened.OpenIndex.take_out_all.Goals as goal

pub take_out_key-requires-clause-stage : goal.take_out_key-requires-clause-stage
take_out_key-requires-clause-stage c = (_, (_, c.loop-key.invariant.stage))

pub loop-key-preserved : goal.loop-key-preserved
loop-key-preserved c =
    let t = c.args.tables.now in
    let ks = c.as_slice-key-items.result.now in
    let i : ℕ = c.loop-key.key-index in
    let inv = c.loop-key.invariant in
    record {
      items = inv.items;
      stage = subst (λ u. IsPhase t u c.in_ok-phase.phase (length c.args.change.now.puts) (parts_of c.take_out_key.new.self)) (sym (ap (without_keys t) (take_more ks i _ c.loop-key-test.true) ∙ fold-append without_key t (take i ks) (_ ∷ []))) (c.in_ok-phase.ensures.out (without_keys t (take i ks)) (length c.args.change.now.puts) inv.stage);
      before = c.in_ok-phase.ensures.before ∙ inv.before;
    }

pub returns-clause-out : goal.returns-clause-out
returns-clause-out c =
    let t = c.args.tables.now in
    let inv = c.loop-key.invariant in
    subst (λ l. IsPhase t (without_keys t l) c.loop-key.phase (length c.args.change.now.puts) (parts_of c.loop-key.self)) (take_every c.as_slice-key-items.result.now c.loop-key.key-index c.loop-key-test.false ∙ inv.items) inv.stage
