use Rattle.std.proofs.Common.{◌≡◌, map, take}
use Rattle.std.specs.List.{AllByRecursion}
use Rattle.desk_base.specs.declared.rows.resources.ResourceRow.{ResourceRow}
use Rattle.desk_load.specs.declared.weights.Weight.{Weight}
use Rattle.desk_load.specs.Index.{IsWeightOf}
use Rattle.desk_load.proofs.build.weights_of.Given as goal

abbrev pub invariant-loop-row : goal.invariant-loop-row
invariant-loop-row l = record {
  items : l.row-items ≡ l.tables.resources;
  numbers : map (λ (w : Weight). w.resource) l.weights.items ≡ map (λ (x : ResourceRow). x.id) (take l.row-index l.row-items);
  each : AllByRecursion (λ (w : Weight). IsWeightOf l.tables w.resource w.weight) l.weights.items;
}
