use Rattle.std.proofs.Common.{rules, ◌≡◌, ◌∙◌, ℕ, ◌≤◌, true, false, nat_lt, List, length, sym, ap, subst}
use Rattle.std.proofs.lemmas.List.Sorted.{IsPartitionPoint-from_clause}
use Rattle.std.specs.Prelude.{find}
use Rattle.std.specs.List.{insert}
use Rattle.std.specs.List.Sorted.{IsPartitionPoint}
use Rattle.desk_base.specs.rows.Ranges.{Rise, owns}
use Rattle.desk_base.proofs.lists.Cuts.{cut_partitioned, is_below, cut_below}
use Rattle.desk_load.specs.declared.lists.BookingList.{BookingList}
use Rattle.desk_load.specs.Parted.{IndexParts}
use Rattle.desk_load.specs.Changed.{parts_of}
use Rattle.desk_load.proofs.Numbers.{rise_strict}
use Rattle.desk_load.proofs.Grouped.{group_stands, group_added}
use Rattle.desk_load.proofs.changes.opened.OpenIndex.put_group.Goals as goal

pub returns-in-Some-clause-put : goal.returns-in-Some-clause-put
returns-in-Some-clause-put c s more h =
    let owner = λ (l : BookingList). l.number in
    group_stands c.args.tables.now s more (parts_of c.args.self.now) c.args.group.now h _
    ((λ i. find (owns owner (sym c.get-number.ensures.value i)) (sym c.as_slice.ensures.value i)) ∙ sym c.in-Some.ensures)

pub returns-clause-put : goal.returns-clause-put
returns-clause-put c s more h =
    let owner = λ (l : BookingList). l.number in
    let rank : BookingList → ℕ = λ l. 0 in
    let g = c.args.group.now in
    let number : ℕ = c.get-number.result in
    let at : ℕ = c.partition_point-at.result in
    let booked = c.args.self.now.booked.items in
    let rows = c.deref.result.now in
    let below = is_below owner rank number in
    let rise : Rise owner rank rows = subst (Rise owner rank) (sym c.deref.ensures.value) (rise_strict owner booked h.order.2) in
    let p = IsPartitionPoint-from_clause below rows at c.partition_point-at.ensures.partitioned (cut_partitioned below rows (cut_below owner rank number rows rise)) (λ a r q k. search rules) in
    let p1 = subst (λ n. IsPartitionPoint (λ (l : BookingList). nat_lt l.number n ≡ true) (λ (l : BookingList). nat_lt l.number n ≡ false) rows at) c.get-number.ensures.value p in
    let p2 = subst (λ xs. IsPartitionPoint (λ (l : BookingList). nat_lt l.number g.id ≡ true) (λ (l : BookingList). nat_lt l.number g.id ≡ false) xs at) c.deref.ensures.value p1 in
    let parts = c.in_ok-add_booked.ensures.parts in
    group_added c.args.tables.now s more (parts_of c.args.self.now) (parts_of c.add_booked.new.self) g at c.requires.well_formed h
    ((λ i. find (owns owner (sym c.get-number.ensures.value i)) (sym c.as_slice.ensures.value i)) ∙ sym c.in_default.ensures)
    (subst (λ (xs : List BookingList). at ≤ length xs) c.deref.ensures.value c.partition_point-at.ensures.bound)
    p2
    (ap (λ (i : IndexParts). i.weights) parts)
    (ap (λ (i : IndexParts). i.standing) parts)
    (ap (λ (i : IndexParts). i.members) parts)
    (ap (λ (i : IndexParts). i.booked) parts ∙ (λ k. insert booked at (record { number = c.get-number.ensures.value k; bookings = c.empty-bookings.ensures k })))
