use Rattle.std.proofs.Common.{rules, ◌≡◌, ◌∙◌, ℕ, ◌≤◌, true, false, nat_lt, List, [], length, sym, ap, subst}
use Rattle.std.proofs.lemmas.List.Sorted.{IsPartitionPoint-from_clause}
use Rattle.std.specs.List.{insert}
use Rattle.std.specs.List.Sorted.{IsPartitionPoint}
use Rattle.desk_base.specs.rows.Ranges.{Rise}
use Rattle.desk_base.proofs.lists.Cuts.{cut_partitioned, is_below, cut_below}
use Rattle.desk_load.specs.declared.lists.BookingList.{BookingList}
use Rattle.desk_load.specs.Parted.{IndexParts}
use Rattle.desk_load.proofs.Numbers.{rise_strict}
use Rattle.desk_load.proofs.Renumbered.{absent_number, inserted_is}
use Rattle.desk_load.proofs.changes.opened.OpenIndex.add_list_of.Goals as goal

pub returns-clause-standing : goal.returns-clause-standing
returns-clause-standing c =
    let owner = λ (l : BookingList). l.number in
    let rank : BookingList → ℕ = λ l. 0 in
    let number : ℕ = c.args.number in
    let at : ℕ = c.partition_point-at.result in
    let lists = c.args.self.now.standing.items in
    let rows = c.deref.result.now in
    let below = is_below owner rank number in
    let rise : Rise owner rank rows = subst (Rise owner rank) (sym c.deref.ensures.value) (rise_strict owner lists c.requires.rise) in
    let p = IsPartitionPoint-from_clause below rows at c.partition_point-at.ensures.partitioned (cut_partitioned below rows (cut_below owner rank number rows rise)) (λ a r q k. search rules) in
    let q = subst (λ (xs : List BookingList). IsPartitionPoint (λ (l : BookingList). nat_lt l.number number ≡ true) (λ (l : BookingList). nat_lt l.number number ≡ false) xs at) c.deref.ensures.value p in
    ap (λ (i : IndexParts). i.standing) c.in_ok-add_standing.ensures.parts
    ∙ (λ k. insert lists at (record { number = number; bookings = c.empty-bookings.ensures k }))
    ∙ inserted_is owner number lists at (record { number = number; bookings = [] }) (subst (λ (xs : List BookingList). at ≤ length xs) c.deref.ensures.value c.partition_point-at.ensures.bound) q (absent_number owner number lists c.requires.absent)
