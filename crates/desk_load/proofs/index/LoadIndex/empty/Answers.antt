use Rattle.std.proofs.Common.{◌≡◌, ℕ, List, [], map, sym, subst}
use Rattle.std.specs.Ordering.{nat_cmp}
use Rattle.std.specs.List.Sorted.{IsStrictlySortedBy}
use Rattle.desk_load.specs.declared.weights.Weight.{Weight}
use Rattle.desk_load.specs.declared.lists.BookingList.{BookingList}
use Rattle.desk_load.proofs.index.LoadIndex.empty.Goals as goal

none_rise : {A : Type 0} (number : A → ℕ) (xs : List A) → xs ≡ [] → IsStrictlySortedBy nat_cmp (map number xs)
unfolding IsStrictlySortedBy
none_rise number xs e = subst (λ l. IsStrictlySortedBy nat_cmp (map number l)) (sym e) tt

pub invariant_of-result : goal.invariant_of-result
invariant_of-result c = (
  none_rise (λ (w : Weight). w.resource) c.new.result.items c.new.ensures.items,
  none_rise (λ (l : BookingList). l.number) c.new-2.result.items c.new-2.ensures.items,
  none_rise (λ (l : BookingList). l.number) c.new-3.result.items c.new-3.ensures.items,
)
