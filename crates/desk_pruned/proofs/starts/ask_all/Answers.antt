use Rattle.std.proofs.Common.{◌≡◌, ◌<◌, ◌≤◌, ◌++◌, [], false, length, take, drop, get_or, inl, inr, sym, ap, subst, arith}
use Rattle.std.proofs.lemmas.Grind.{common_steps}
use Rattle.std.proofs.lemmas.List.{take_all}
use Rattle.std.specs.Prelude.{Contains}
use Rattle.desk_pruned.specs.declared.roots.Root.{Root}
use Rattle.desk_pruned.specs.Cuts.{cut_at}
use Rattle.desk_pruned.specs.Starts.{is_unasked}
use Rattle.desk_pruned.proofs.rooted.RowLists.{contains-push, unasked_written, taken_written, roots_written}
use Rattle.desk_pruned.proofs.starts.ask_all.Goals as goal

pub loop-root-preserved : goal.loop-root-preserved
loop-root-preserved g c =
    let w = g.S.Explored.ways c.args.space.now in
    let rs = c.loop-root.root-items in
    let i = c.loop-root.root-index in
    let inside : i < length rs = omega arith in
    let old = get_or rs i c.root-item.result in
    let is = ap (get_or rs i) c.root-item.is in
    let new = c.in_ok-root.field-0 in
    let owed = unasked_written rs i old inside is new in
    record {
      roots = roots_written rs i old inside is w (cut_at c.args.start [] c.args.tried.now) new c.loop-root.invariant.roots c.in_ok-root.ensures.pick c.in_ok-root.ensures.known;
      asked = λ r h. elim (contains-push (take i rs) new r (subst (λ l. Contains l r) (taken_written rs i old inside is new) h)) [
        | inl d ↦ c.loop-root.invariant.asked r d
        | inr e ↦ subst (λ (q : Root). is_unasked q.next ≡ false) (sym e) c.in_ok-root.ensures.asked
      ];
      spent = omega (arith, owed, c.in_ok-root.ensures.steps, c.loop-root.invariant.spent);
    }

pub returns-clause-asked : goal.returns-clause-asked
returns-clause-asked g c =
    let rs = c.loop-root.root-items in
    let outside : length rs ≤ c.loop-root.root-index = omega arith in
    let back : take c.args.roots.now.len (rs ++ drop (length rs) c.args.roots.now.items) ≡ rs = grind (arith, common_steps) in
    λ r h. c.loop-root.invariant.asked r (subst (λ l. Contains l r) (sym (take_all c.loop-root.root-index rs outside)) (subst (λ l. Contains l r) back h))
