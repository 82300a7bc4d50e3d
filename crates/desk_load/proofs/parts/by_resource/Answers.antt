use Rattle.std.proofs.Common.{rules}
use Rattle.std.proofs.lemmas.List.Sorted.{IsNonDecreasingBy-from_sort_by_key}
use Rattle.desk_load.specs.declared.parts.Part.{Part}
use Rattle.desk_load.proofs.Numbers.{rise_sorted}
use Rattle.desk_load.proofs.parts.by_resource.Goals as goal

pub returns-clause-rise : goal.returns-clause-rise
returns-clause-rise c = rise_sorted (λ (p : Part). p.resource) c.sort_by_key.new.self.items (IsNonDecreasingBy-from_sort_by_key (λ (p : Part). p.resource) _ c.in_ok-sort_by_key.ensures.sorted (λ a r q k. search rules))
