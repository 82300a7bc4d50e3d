use Rattle.std.proofs.Common.{ℕ, ◌≡◌, rules}
use Rattle.std.proofs.lemmas.Fn.{always_returns_same}
use Rattle.std.proofs.lemmas.List.Sorted.{IsNonDecreasingBy-from_sort_by_key}
use Rattle.desk_load.specs.declared.lists.Owned.{Owned}
use Rattle.desk_load.proofs.Numbers.{rise_sorted, owned_stay}
use Rattle.desk_load.proofs.lists.in_order.Goals as goal

abbrev of_number : ℕ → Owned
of_number n = record { owner = n; booking = record { id = 0; group = 0; leaf = 0; resource = 0; from = 0; to = 0; effort = 0 } }

pub returns-clause-same : goal.returns-clause-same
returns-clause-same c n = owned_stay (λ (o : Owned). o.owner) (of_number n) c.args.owned.items c.sort_by_key.new.self.items (c.in_ok-sort_by_key.ensures.stable (λ (o : Owned). o.owner) (always_returns_same _ (λ a r. r ≡ a.0.now.owner) _ (λ a r q k. search rules)) (of_number n))

pub returns-clause-rise : goal.returns-clause-rise
returns-clause-rise c = rise_sorted (λ (o : Owned). o.owner) c.sort_by_key.new.self.items (IsNonDecreasingBy-from_sort_by_key (λ (o : Owned). o.owner) _ c.in_ok-sort_by_key.ensures.sorted (λ a r q k. search rules))
