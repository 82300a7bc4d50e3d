use Rattle.std.proofs.Common.{List, map, sym, subst}
use Rattle.std.specs.Ordering.{nat_cmp}
use Rattle.std.specs.List.Sorted.{IsStrictlySortedBy}
use Rattle.desk_load.specs.declared.lists.BookingList.{BookingList}
use Rattle.desk_load.proofs.changes.opened.OpenIndex.remove_resource.Goals as goal

pub remove_list_of-requires : goal.remove_list_of-requires
remove_list_of-requires c = subst (λ (l : List BookingList). IsStrictlySortedBy nat_cmp (map (λ (x : BookingList). x.number) l)) (sym c.in_ok-remove_weight_of.ensures.standing) c.requires.1
