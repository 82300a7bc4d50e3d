use Rattle.std.proofs.Common.{◌≡◌, ℕ, ◌+◌, ◌++◌, ◌∷◌, [], ◌∙◌, sym, ap, subst, pos, map, take}
use Rattle.std.proofs.lemmas.List.{take_more}
use Rattle.std.specs.List.{AllByRecursion}
use Rattle.desk_base.specs.declared.rows.resources.ResourceRow.{ResourceRow}
use Rattle.desk_load.specs.declared.weights.Weight.{Weight}
use Rattle.desk_load.specs.Index.{IsWeightOf}
use Rattle.desk_load.proofs.Numbers.{all_more, map_more, take_every}
use Rattle.desk_load.proofs.build.weights_of.Goals as goal

pub loop-row-preserved : goal.loop-row-preserved
loop-row-preserved c =
    let t = c.args.tables.now in
    let inv = c.loop-row.invariant in
    let xs = c.as_slice-row-items.result.now in
    let i : ℕ = c.loop-row.row-index in
    let x : ResourceRow = c.row-item.result in
    let ws = c.loop-row.weights.items in
    let w : Weight = record { resource = x.id; weight = c.in_ok-weight_of.field-0 } in
    let items : c.push.new.self.items ≡ ws ++ w ∷ [] = c.in-Ok.ensures.items in
    let more : take (i + 1) xs ≡ take i xs ++ x ∷ [] = take_more xs i x c.loop-row-test.true ∙ ap (λ y. take i xs ++ y ∷ []) (sym c.row-item.is) in
    let one : IsWeightOf t x.id c.in_ok-weight_of.field-0 = record {
      begin = c.in_ok-weight_of.ensures.begin;
      end = c.in_ok-weight_of.ensures.end;
      weight_at = λ m l h. c.in_ok-weight_of.ensures.values m l h ∙ ap pos (c.requires.sums x.id m);
    } in
    record {
      items = inv.items;
      numbers = ap (map (λ (w : Weight). w.resource)) items ∙ map_more (λ (w : Weight). w.resource) ws w ∙ ap (λ l. l ++ x.id ∷ []) inv.numbers ∙ sym (ap (map (λ (x : ResourceRow). x.id)) more ∙ map_more (λ (x : ResourceRow). x.id) (take i xs) x);
      each = subst (AllByRecursion (λ (w : Weight). IsWeightOf t w.resource w.weight)) (sym items) (all_more (λ (w : Weight). IsWeightOf t w.resource w.weight) ws w inv.each one);
    }

pub returns : goal.returns
returns c =
    let t = c.args.tables.now in
    let inv = c.loop-row.invariant in
    record {
      numbers = inv.numbers ∙ ap (map (λ (x : ResourceRow). x.id)) (take_every c.as_slice-row-items.result.now c.loop-row.row-index c.loop-row-test.false ∙ inv.items);
      each = inv.each;
    }
